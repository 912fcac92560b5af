-- `updating::shifting::copy_one` meets its contract: each leaf says what it reads and writes. Assumes nothing.
use mathlib.Core.Path.{◌≡◌, refl, ◌∙◌}
use Rattle.definitions.specs.Moves.{to}
use Rattle.definitions.specs.Table.{table_of}
use Rattle.updating.specs.Records.{sym_k}
use Rattle.updating.specs.Copy.{or_zero}
use Rattle.updating.proofs.shifting.copy_one.Goals as goal

pub returns : goal.returns
returns c =
    let a = c.args in
    let G = table_of a.t.now in
    let s : c.unwrap_or-s.result ≡ to G c.state_at_start-from.result (sym_k G a.kind) = c.unwrap_or-s.ensures ∙ or_zero G _ a.kind _ c.lead.ensures in
    let p = c.put.ensures in
    record {
      room_after = p.room_after ∙ rw (s, c.state_at_start-from.ensures, c.identity.ensures) refl;
      room_unchanged = p.room_unchanged;
    }
