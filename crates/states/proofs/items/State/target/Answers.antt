-- `states::items::State::target` meets its contract: a symbol is a terminal, with an action, or a nonterminal, with a goto. Assumes nothing.
use borrow.Author.Rules.{rules}
use Rattle.sheet.specs.Within.{action_within, goto_within}
use Rattle.states.specs.Items.{terminal_of, nonterminal_of}
use Rattle.states.proofs.items.State.target.Goals as goal

pub action-requires : goal.action-requires
action-requires c =
    let l = c.args.self.now.lies in
    let h = terminal_of c.args.self.now.states.now.firsts.now.grammar.now.sheet.now c.args.x c.requires c.if-x-lt128.true in
    action_within _ l.laid c.args.self.now.s c.from.result l.state (search rules)

pub goto_byte-requires : goal.goto_byte-requires
goto_byte-requires c =
    let l = c.args.self.now.lies in
    let h = nonterminal_of c.args.self.now.states.now.firsts.now.grammar.now.sheet.now c.args.x l.laid c.requires c.if-x-lt128.false in
    goto_within _ l.laid c.args.self.now.s c.from-2.result l.state (search rules)
