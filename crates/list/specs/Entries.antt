-- What an entry stands for, by its number: below 2,048 a piece, from there on a code.
use Rattle.std.specs.Prelude.{◌≡◌, refl, ℕ, ◌-◌, ◌≤◌, ◌<◌, Bool, true, false, cond, ltb}
use Rattle.std.proofs.Common.{ltb-true, ltb-false}
use Rattle.list.specs.declared.Entry.{Entry}
use Rattle.list.specs.declared.Entry.TheVariants.{Piece, Code}

abbrev pub entry_of : ℕ → Entry
entry_of e = cond (ltb e 2048) (Piece e) (Code (e - 2048))

pub entry-piece : (e v : ℕ) → Piece v ≡ entry_of e → (e < 2048) × (v ≡ e)
entry-piece e v = by (ltb e 2048) refl
  where
    by : (b : Bool) → ltb e 2048 ≡ b → Piece v ≡ cond b (Piece e) (Code (e - 2048)) → (e < 2048) × (v ≡ e)
    by true h p = (ltb-true e 2048 h, cc)
    by false h p = absurd cc

pub entry-code : (e k : ℕ) → Code k ≡ entry_of e → (2048 ≤ e) × (k ≡ e - 2048)
entry-code e k = by (ltb e 2048) refl
  where
    by : (b : Bool) → ltb e 2048 ≡ b → Code k ≡ cond b (Piece e) (Code (e - 2048)) → (2048 ≤ e) × (k ≡ e - 2048)
    by true h p = absurd cc
    by false h p = (ltb-false e 2048 h, cc)
