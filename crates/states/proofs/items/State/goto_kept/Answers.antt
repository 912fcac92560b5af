-- `states::items::State::goto_kept` meets its contract: no goto, or one, by its set. Assumes nothing.
use Rattle.sheet.specs.Within.{goto_within}
use Rattle.states.proofs.items.State.goto_kept.Goals as goal

pub goto_byte-requires : goal.goto_byte-requires
goto_byte-requires c =
    let a = c.args.self.now in
    goto_within a.states.now.firsts.now.grammar.now.sheet.now a.lies.laid a.s c.args.m a.lies.state c.requires.m_bound
