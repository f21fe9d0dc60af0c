use Rattle.std.proofs.Common.{List, ℕ, ◌∷◌, [], set, true, sym, subst}
use Rattle.vc_aut.specs.Links.{IsFollowed}
use Rattle.vc_aut.proofs.Reached.{followed_new, followed_none, followed_seen}
use Rattle.vc_aut.proofs.links.visit.Goals as goal

pub returns-then-marks-state : goal.returns-then-marks-state
returns-then-marks-state c =
    followed_seen [] c.args.marks.now c.args.waiting.now.items c.args.marks.now c.args.waiting.now.items c.args.state (followed_none c.args.marks.now c.args.waiting.now.items) c.if-marks-state.true

pub returns : goal.returns
returns c =
    subst (λ (ys : List ℕ). IsFollowed (c.args.state ∷ []) c.args.marks.now c.args.waiting.now.items (set c.args.marks.now c.args.state true) ys) (sym c.in_ok-push.ensures.items)
    (followed_new [] c.args.marks.now c.args.waiting.now.items c.args.marks.now c.args.waiting.now.items c.args.state (followed_none c.args.marks.now c.args.waiting.now.items) c.if-marks-state.false c.requires)
