-- `first::first_of` meets its contract: what is gathered by the sets of FIRST is FIRST. Assumes nothing.
use Rattle.grammar.specs.Gathered.{first_of}
use Rattle.grammar.specs.Known.{firsts_known}
use Rattle.grammar.proofs.first.first_of.Goals as goal

pub returns : goal.returns
returns c =
    let f = c.args.firsts.now in
    let l = f.grammar.now.laid in
    let h = c.requires in
    first_of _ f.sets l (firsts_known _ l _ f.firsts) _ _ h.p_bound.0 _ _ h.le_bits.0 h.le_bits.1 c.gather.ensures
