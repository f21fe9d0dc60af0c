use Rattle.std.proofs.Common.{◌+◌, ◌-◌, ◌≤◌, length, drop, take, sym, rules, length-take-le}
use Rattle.vc_lex.proofs.Bounds.{found_within, count_within}
use Rattle.vc_lex.proofs.lexer.Lexer.next.Goals as goal
use Rattle.vc_lex.proofs.lexer.Lexer.next.Goals.{In-Found}

-- the token lies within the rest of the source
within_rest : (c : In-Found) → c.in-Found.width ≤ length (take (length c.self.inside.source.now - (c.self.inside.at + c.blanks_in_front.result)) (drop (c.self.inside.at + c.blanks_in_front.result) c.self.inside.source.now))
within_rest c =
    found_within c.self.inside.mode
    (take (length c.self.inside.source.now - (c.self.inside.at + c.blanks_in_front.result)) (drop (c.self.inside.at + c.blanks_in_front.result) c.self.inside.source.now))
    c.token_at.result c.in-Found.kind c.in-Found.width c.token_at.ensures c.in-Found.is

-- and so within the source
within_source : (c : In-Found) → c.self.inside.at + c.blanks_in_front.result + c.in-Found.width ≤ length c.self.inside.source.now
within_source c =
    let start : c.self.inside.at + c.blanks_in_front.result ≤ length c.self.inside.source.now =
    count_within c.self.inside.source.now c.self.inside.at c.blanks_in_front.result c.self.invariant c.blanks_in_front.ensures.within in
    count_within c.self.inside.source.now (c.self.inside.at + c.blanks_in_front.result) c.in-Found.width start (within_rest c)

pub slice_bounds-token-end : goal.slice_bounds-token-end
slice_bounds-token-end c = sym (length-take-le c.in-Found.width _ (within_rest c))

pub overflow_add-self-in-Found : goal.overflow_add-self-in-Found
overflow_add-self-in-Found c =
    let bound = within_source (goal.at.overflow_add-self-in-Found c).In-Found in
    search (rules, bound)

pub invariant_of-self-in-Found : goal.invariant_of-self-in-Found
invariant_of-self-in-Found c = within_source (goal.at.invariant_of-self-in-Found c).In-Found
