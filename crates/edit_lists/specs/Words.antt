-- The words of a list of edit structs: those that document 01 has for its edits, three an edit, in order. They are those of crate edits, and
-- so are their laws.
use Rattle.std.specs.Prelude.{◌≡◌, List, ℕ, ◌*◌, ◌<◌, length, get_or}
use Rattle.edits.specs.Fits.{Record}
use Rattle.edits.specs.Words as Every
use Rattle.edits.specs.declared.Edit.{Edit}
pub use Rattle.edits.specs.Words.{edit}

abbrev pub words_of : List Edit → List ℕ
words_of = Every.words_of edit

pub words-length : (es : List Edit) → length (words_of es) ≡ length es * 3
words-length = Every.words-length edit

abbrev pub none : Edit
none = record { place = 0; removed = 0; put = 0 }

-- edit i is the record at word 3 i
pub words-record : (es : List Edit) (i : ℕ) → i < length es → Record (words_of es) (i * 3) (edit (get_or es i none))
words-record es = Every.words-record edit es none
