-- What `io::decimal` writes is the number's decimal, in ten digits at most.
use Rattle.std.proofs.Common.{arith, ap, ◌∙◌, ◌<◌}
use Rattle.lines.specs.Program.{decimal}
use Rattle.lines.specs.Numerals.{ten_digits, decimal_is}
use Rattle.lines.proofs.put_number.Goals as goal

pub put_text-requires : goal.put_text-requires
put_text-requires c =
    let d = c.decimal-k.ensures in
    let b = d.in_bounds.1 in
    let f : c.from.result < 4294967296 = omega arith in
    let t = ten_digits c.from.result c.decimal-k.result f d.len in
    omega arith

pub returns : goal.returns
returns c =
    let d = c.decimal-k.ensures in
    let f : c.from.result < 4294967296 = omega arith in
    rw (d.digits ∙ decimal_is c.from.result c.decimal-k.result f d.len ∙ ap decimal c.from.ensures) at c.put_text.ensures
