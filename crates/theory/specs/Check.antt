-- The computing tests of a table sheet say exactly the layout, the grammar rules and the conditions; the house table is accepted.
pub mod Every
pub mod Sets
pub mod LayoutTest
pub mod GrammarTest
pub mod StatesTest
pub mod Says
pub mod SetLaws
pub mod Rounds
pub mod Least
pub mod LayoutLaws
pub mod GrammarLaws
pub mod FirstLaws
pub mod ItemLaws
pub mod ConditionLaws
pub mod ChainLaws
pub mod Judge
pub mod HouseAccepted
