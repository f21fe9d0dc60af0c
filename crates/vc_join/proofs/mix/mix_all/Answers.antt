use Rattle.std.proofs.Common.{rules, ◌≡◌, map, ◌∙◌, ap, ap₂, sym, subst, length}
use Rattle.vc_aut.specs.Stored.{transition_of}
use Rattle.vc_label.specs.Sets.{IsOverSets}
use Rattle.vc_model.specs.Gathered.{IsAscending}
use Rattle.vc_model.specs.Lists.{In}
use Rattle.vc_search.specs.Courses.{led_all}
use Rattle.vc_join.specs.Orders.{item_before}
use Rattle.vc_join.specs.Pairs.{same_states}
use Rattle.vc_join.specs.Shuffles.{left_item, mixed_items, right_item}
use Rattle.vc_join.proofs.Mixing.{nothing_left, rest_stops}
use Rattle.vc_join.proofs.Steps.{drop_ascending, drop_in, rest_map}
use Rattle.vc_join.proofs.mix.mix_all.Goals as goal

pub loop-left-preserved : goal.loop-left-preserved
loop-left-preserved g c =
    let R = g.S.Semiring.set in
    let T = transition_of g.L.LabelSet.parts in
    let k = c.args.pair in
    let old = c.loop-left.invariant in
    let next = c.in-Ok.ensures.ok in
    let n = c.in-Ok.taken in
    let ts = map T c.loop-left.left.now in
    let us = map T c.loop-left.right.now in
    let l = rest_map T n.0 c.loop-left.left.now in
    let r = rest_map T n.1 c.loop-left.right.now in
    record {
      rest = ap (led_all same_states c.args.from c.mix_next.new.into) (ap₂ (mixed_items R k) l r) ∙ next.rest ∙ old.rest;
      lefts = subst (λ zs. IsAscending item_before (map (left_item k.1) zs)) (sym l) (drop_ascending item_before (left_item k.1) n.0 ts old.lefts);
      rights = subst (λ zs. IsAscending item_before (map (right_item k.0) zs)) (sym r) (drop_ascending item_before (right_item k.0) n.1 us old.rights);
      among_lefts = λ t i. old.among_lefts t (drop_in n.0 ts t (subst (In t) l i));
      among_rights = λ t i. old.among_rights t (drop_in n.1 us t (subst (In t) r i));
      sets = next.sets ∙ old.sets;
      from = next.within;
    }

pub mix_next-requires-clause-lefts_over : goal.mix_next-requires-clause-lefts_over
mix_next-requires-clause-lefts_over g c t i = subst (λ s. IsOverSets s t.label) (sym c.loop-left.invariant.sets) (c.requires.lefts_over t (c.loop-left.invariant.among_lefts t i))

pub mix_next-requires-clause-rights_over : goal.mix_next-requires-clause-rights_over
mix_next-requires-clause-rights_over g c t i = subst (λ s. IsOverSets s t.label) (sym c.loop-left.invariant.sets) (c.requires.rights_over t (c.loop-left.invariant.among_rights t i))

pub mix_next-requires-clause-lefts_full : goal.mix_next-requires-clause-lefts_full
mix_next-requires-clause-lefts_full g c t i = c.requires.lefts_full t (c.loop-left.invariant.among_lefts t i)

pub mix_next-requires-clause-rights_full : goal.mix_next-requires-clause-rights_full
mix_next-requires-clause-rights_full g c t i = c.requires.rights_full t (c.loop-left.invariant.among_rights t i)

pub mix_next-requires-clause-lefts_in : goal.mix_next-requires-clause-lefts_in
mix_next-requires-clause-lefts_in g c t i = c.requires.lefts_in t (c.loop-left.invariant.among_lefts t i)

pub mix_next-requires-clause-rights_in : goal.mix_next-requires-clause-rights_in
mix_next-requires-clause-rights_in g c t i = c.requires.rights_in t (c.loop-left.invariant.among_rights t i)

pub returns-in-Err-clause-fault : goal.returns-in-Err-clause-fault
returns-in-Err-clause-fault g c =
    let T = transition_of g.L.LabelSet.parts in
    let old = c.loop-left.invariant in
    rest_stops g.S.Semiring.set c.args.pair (map T c.loop-left.left.now) (map T c.loop-left.right.now) (map T c.args.lefts.now) (map T c.args.rights.now) old.among_lefts old.among_rights
    c.args.from c.loop-left.into c.args.into.now old.rest c.in-Err.fault c.in-Err.ensures.fault

pub returns-clause-ok : goal.returns-clause-ok
returns-clause-ok g c =
    let no_left : length c.loop-left.left.now ≡ 0 = search rules in
    let no_right : length c.loop-left.right.now ≡ 0 = search rules in
    let T = transition_of g.L.LabelSet.parts in
    ap (led_all same_states c.args.from c.loop-left.into) (sym (nothing_left g.S.Semiring.set c.args.pair T c.loop-left.left.now c.loop-left.right.now no_left no_right)) ∙ c.loop-left.invariant.rest
