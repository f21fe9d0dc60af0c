use Rattle.std.proofs.Common.{arith, ap, length, map, subst, sym}
use Rattle.std.proofs.lemmas.List.{length-map}
use Rattle.vc_aut.specs.Stored.{transition_of}
use Rattle.vc_label.specs.Sets.{IsOverSets}
use Rattle.vc_search.specs.Courses.{Course}
use Rattle.vc_search.proofs.Growing.{course_added}
use Rattle.vc_search.proofs.exploration.Exploration.add.Goals as goal

pub invariant_of-self : goal.invariant_of-self
invariant_of-self g c =
    let T = transition_of g.L.LabelSet.parts in
    let items = c.self.inside.transitions.items in
    let v : Course g.row.S-Value.Denot g.row.K.Denot = record { most = c.self.inside.most; sets = g.L.LabelSet.sets c.self.inside.labels; members = c.self.inside.search.members; transitions = map T items } in
    let ms = ap (λ (z : Course g.row.S-Value.Denot g.row.K.Denot). length z.members) c.self.view_is in
    let f = c.requires.from in
    let t = c.requires.to in (
      c.self.invariant.0,
      course_added g.S.Semiring.set v (record { from = c.args.from; label = g.L.LabelSet.parts c.args.label; to = c.args.to; weight = c.args.weight }) (map T c.append.new.transitions.items) c.append.result c.append.ensures.ok c.append.ensures.err
          (record { from = omega (arith, f, ms); to = omega (arith, t, ms); label = subst (λ (z : Course g.row.S-Value.Denot g.row.K.Denot). IsOverSets z.sets (g.L.LabelSet.parts c.args.label)) (sym c.self.view_is) c.requires.label; weight = c.requires.weight })
          c.requires.not_empty (omega (arith, length-map items T, c.len.ensures, c.if-len-ge-MOST_TRANSITIONS.false)) c.self.invariant.1,
    )
