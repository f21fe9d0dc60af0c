use Rattle.std.proofs.Common.{◌≡◌, ◌+◌, ◌<◌, map, sym, drop, length, arith, ◌∙◌, Less, Equal, Greater}
use Rattle.std.proofs.lemmas.List.{length-map}
use Rattle.vc_aut.specs.Stored.{transition_of}
use Rattle.vc_join.specs.Shuffles.{first_order, left_item, mixed_items, right_item}
use Rattle.vc_join.proofs.Mixing.{alone_stops, both_stop, front_both, front_left, front_right, of_both, same_of_both, takes_both, takes_left, takes_right, took_both, took_left, took_right}
use Rattle.vc_join.proofs.mix.mix_next.Goals as goal

pub lead_by-requires-clause-label : goal.lead_by-requires-clause-label
lead_by-requires-clause-label g c =
    let T = transition_of g.L.LabelSet.parts in
    let k = c.args.pair in
    let told : first_order k (map T c.args.lefts.now) (map T c.args.rights.now) ≡ Less = sym c.order_of_next.ensures ∙ c.in-Less.is in
    let x = c.index-lefts-0.result in
    let front = front_left k T c.args.lefts.now c.args.rights.now told x c.index-lefts-0.is in
    c.requires.lefts_over (T x) front.0

pub lead_by-requires-clause-not_empty : goal.lead_by-requires-clause-not_empty
lead_by-requires-clause-not_empty g c =
    let T = transition_of g.L.LabelSet.parts in
    let k = c.args.pair in
    let told : first_order k (map T c.args.lefts.now) (map T c.args.rights.now) ≡ Less = sym c.order_of_next.ensures ∙ c.in-Less.is in
    let x = c.index-lefts-0.result in
    let front = front_left k T c.args.lefts.now c.args.rights.now told x c.index-lefts-0.is in
    c.requires.lefts_full (T x) front.0

pub lead_by-requires-clause-weight : goal.lead_by-requires-clause-weight
lead_by-requires-clause-weight g c =
    let T = transition_of g.L.LabelSet.parts in
    let k = c.args.pair in
    let told : first_order k (map T c.args.lefts.now) (map T c.args.rights.now) ≡ Less = sym c.order_of_next.ensures ∙ c.in-Less.is in
    let x = c.index-lefts-0.result in
    let front = front_left k T c.args.lefts.now c.args.rights.now told x c.index-lefts-0.is in
    c.requires.lefts_in (T x) front.0

pub returns-in-Ok-clause-ok : goal.returns-in-Ok-clause-ok
returns-in-Ok-clause-ok g c =
    let T = transition_of g.L.LabelSet.parts in
    let k = c.args.pair in
    let told : first_order k (map T c.args.lefts.now) (map T c.args.rights.now) ≡ Less = sym c.order_of_next.ensures ∙ c.in-Less.is in
    let x = c.index-lefts-0.result in
    let front = front_left k T c.args.lefts.now c.args.rights.now told x c.index-lefts-0.is in
    let R = g.S.Semiring.set in
    let ts = map T c.args.lefts.now in
    let us = map T c.args.rights.now in
    let total = c.words_are_ordered.ensures.total in
    let equal = c.words_are_ordered.ensures.equal in
    took_left total equal R k ts us (c.requires.lefts, c.requires.rights) c.args.from c.args.into.now c.lead_by.new.into c.requires.from told (T x) front.1 c.in-Ok.ensures.ok

pub returns-in-Err-clause-fault : goal.returns-in-Err-clause-fault
returns-in-Err-clause-fault g c =
    let T = transition_of g.L.LabelSet.parts in
    let k = c.args.pair in
    let told : first_order k (map T c.args.lefts.now) (map T c.args.rights.now) ≡ Less = sym c.order_of_next.ensures ∙ c.in-Less.is in
    let x = c.index-lefts-0.result in
    let front = front_left k T c.args.lefts.now c.args.rights.now told x c.index-lefts-0.is in
    let R = g.S.Semiring.set in
    let ts = map T c.args.lefts.now in
    let us = map T c.args.rights.now in
    let total = c.words_are_ordered.ensures.total in
    let equal = c.words_are_ordered.ensures.equal in
    alone_stops R k ts us c.args.from c.args.into.now (left_item k.1 (T x)) (mixed_items R k (drop 1 ts) us)
    (takes_left total equal R k ts us (c.requires.lefts, c.requires.rights) told (T x) front.1) c.in-Err.fault c.in-Err.ensures.fault

pub lead_by-requires-in-Greater-clause-label : goal.lead_by-requires-in-Greater-clause-label
lead_by-requires-in-Greater-clause-label g c =
    let T = transition_of g.L.LabelSet.parts in
    let k = c.args.pair in
    let told : first_order k (map T c.args.lefts.now) (map T c.args.rights.now) ≡ Greater = sym c.order_of_next.ensures ∙ c.in-Greater.is in
    let y = c.index-rights-0.result in
    let front = front_right k T c.args.lefts.now c.args.rights.now c.requires.some told y c.index-rights-0.is in
    c.requires.rights_over (T y) front.0

pub lead_by-requires-in-Greater-clause-not_empty : goal.lead_by-requires-in-Greater-clause-not_empty
lead_by-requires-in-Greater-clause-not_empty g c =
    let T = transition_of g.L.LabelSet.parts in
    let k = c.args.pair in
    let told : first_order k (map T c.args.lefts.now) (map T c.args.rights.now) ≡ Greater = sym c.order_of_next.ensures ∙ c.in-Greater.is in
    let y = c.index-rights-0.result in
    let front = front_right k T c.args.lefts.now c.args.rights.now c.requires.some told y c.index-rights-0.is in
    c.requires.rights_full (T y) front.0

pub lead_by-requires-in-Greater-clause-weight : goal.lead_by-requires-in-Greater-clause-weight
lead_by-requires-in-Greater-clause-weight g c =
    let T = transition_of g.L.LabelSet.parts in
    let k = c.args.pair in
    let told : first_order k (map T c.args.lefts.now) (map T c.args.rights.now) ≡ Greater = sym c.order_of_next.ensures ∙ c.in-Greater.is in
    let y = c.index-rights-0.result in
    let front = front_right k T c.args.lefts.now c.args.rights.now c.requires.some told y c.index-rights-0.is in
    c.requires.rights_in (T y) front.0

pub returns-in-Ok-lead_by-clause-ok : goal.returns-in-Ok-lead_by-clause-ok
returns-in-Ok-lead_by-clause-ok g c =
    let T = transition_of g.L.LabelSet.parts in
    let k = c.args.pair in
    let told : first_order k (map T c.args.lefts.now) (map T c.args.rights.now) ≡ Greater = sym c.order_of_next.ensures ∙ c.in-Greater.is in
    let y = c.index-rights-0.result in
    let front = front_right k T c.args.lefts.now c.args.rights.now c.requires.some told y c.index-rights-0.is in
    let R = g.S.Semiring.set in
    let ts = map T c.args.lefts.now in
    let us = map T c.args.rights.now in
    let total = c.words_are_ordered.ensures.total in
    let equal = c.words_are_ordered.ensures.equal in
    let some : 0 < length ts + length us = omega (arith, c.requires.some, length-map c.args.lefts.now T, length-map c.args.rights.now T) in
    took_right total equal R k ts us (c.requires.lefts, c.requires.rights) c.args.from c.args.into.now c.lead_by-in-Greater.new.into c.requires.from some told (T y) front.1 c.in-Ok-lead_by.ensures.ok

pub returns-in-Err-lead_by-clause-fault : goal.returns-in-Err-lead_by-clause-fault
returns-in-Err-lead_by-clause-fault g c =
    let T = transition_of g.L.LabelSet.parts in
    let k = c.args.pair in
    let told : first_order k (map T c.args.lefts.now) (map T c.args.rights.now) ≡ Greater = sym c.order_of_next.ensures ∙ c.in-Greater.is in
    let y = c.index-rights-0.result in
    let front = front_right k T c.args.lefts.now c.args.rights.now c.requires.some told y c.index-rights-0.is in
    let R = g.S.Semiring.set in
    let ts = map T c.args.lefts.now in
    let us = map T c.args.rights.now in
    let total = c.words_are_ordered.ensures.total in
    let equal = c.words_are_ordered.ensures.equal in
    let some : 0 < length ts + length us = omega (arith, c.requires.some, length-map c.args.lefts.now T, length-map c.args.rights.now T) in
    alone_stops R k ts us c.args.from c.args.into.now (right_item k.0 (T y)) (mixed_items R k ts (drop 1 us))
    (takes_right total equal R k ts us (c.requires.lefts, c.requires.rights) some told (T y) front.1) c.in-Err-lead_by.fault c.in-Err-lead_by.ensures.fault

pub lead_by_both-requires-clause-label : goal.lead_by_both-requires-clause-label
lead_by_both-requires-clause-label g c =
    let T = transition_of g.L.LabelSet.parts in
    let k = c.args.pair in
    let told : first_order k (map T c.args.lefts.now) (map T c.args.rights.now) ≡ Equal = sym c.order_of_next.ensures ∙ c.in-Equal.is in
    let x = c.index-lefts-0-in-Equal.result in
    let y = c.index-rights-0-in-Equal.result in
    let front = front_both k T c.args.lefts.now c.args.rights.now told x y c.index-lefts-0-in-Equal.is c.index-rights-0-in-Equal.is in
    c.requires.lefts_over (T x) front.0.0

pub lead_by_both-requires-clause-not_empty : goal.lead_by_both-requires-clause-not_empty
lead_by_both-requires-clause-not_empty g c =
    let T = transition_of g.L.LabelSet.parts in
    let k = c.args.pair in
    let told : first_order k (map T c.args.lefts.now) (map T c.args.rights.now) ≡ Equal = sym c.order_of_next.ensures ∙ c.in-Equal.is in
    let x = c.index-lefts-0-in-Equal.result in
    let y = c.index-rights-0-in-Equal.result in
    let front = front_both k T c.args.lefts.now c.args.rights.now told x y c.index-lefts-0-in-Equal.is c.index-rights-0-in-Equal.is in
    c.requires.lefts_full (T x) front.0.0

pub lead_by_both-requires-clause-left_in : goal.lead_by_both-requires-clause-left_in
lead_by_both-requires-clause-left_in g c =
    let T = transition_of g.L.LabelSet.parts in
    let k = c.args.pair in
    let told : first_order k (map T c.args.lefts.now) (map T c.args.rights.now) ≡ Equal = sym c.order_of_next.ensures ∙ c.in-Equal.is in
    let x = c.index-lefts-0-in-Equal.result in
    let y = c.index-rights-0-in-Equal.result in
    let front = front_both k T c.args.lefts.now c.args.rights.now told x y c.index-lefts-0-in-Equal.is c.index-rights-0-in-Equal.is in
    c.requires.lefts_in (T x) front.0.0

pub lead_by_both-requires-clause-right_in : goal.lead_by_both-requires-clause-right_in
lead_by_both-requires-clause-right_in g c =
    let T = transition_of g.L.LabelSet.parts in
    let k = c.args.pair in
    let told : first_order k (map T c.args.lefts.now) (map T c.args.rights.now) ≡ Equal = sym c.order_of_next.ensures ∙ c.in-Equal.is in
    let x = c.index-lefts-0-in-Equal.result in
    let y = c.index-rights-0-in-Equal.result in
    let front = front_both k T c.args.lefts.now c.args.rights.now told x y c.index-lefts-0-in-Equal.is c.index-rights-0-in-Equal.is in
    c.requires.rights_in (T y) front.1.0

pub returns-in-Ok-lead_by_both-clause-ok : goal.returns-in-Ok-lead_by_both-clause-ok
returns-in-Ok-lead_by_both-clause-ok g c =
    let T = transition_of g.L.LabelSet.parts in
    let k = c.args.pair in
    let told : first_order k (map T c.args.lefts.now) (map T c.args.rights.now) ≡ Equal = sym c.order_of_next.ensures ∙ c.in-Equal.is in
    let x = c.index-lefts-0-in-Equal.result in
    let y = c.index-rights-0-in-Equal.result in
    let front = front_both k T c.args.lefts.now c.args.rights.now told x y c.index-lefts-0-in-Equal.is c.index-rights-0-in-Equal.is in
    let R = g.S.Semiring.set in
    let ts = map T c.args.lefts.now in
    let us = map T c.args.rights.now in
    let total = c.words_are_ordered.ensures.total in
    let equal = c.words_are_ordered.ensures.equal in
    took_both total equal R k ts us (c.requires.lefts, c.requires.rights) c.args.from c.args.into.now c.lead_by_both.new.into c.requires.from told (T x) (T y) front.0.1 front.1.1 c.in-Ok-lead_by_both.ensures.ok

pub returns-in-Err-lead_by_both-clause-fault : goal.returns-in-Err-lead_by_both-clause-fault
returns-in-Err-lead_by_both-clause-fault g c =
    let T = transition_of g.L.LabelSet.parts in
    let k = c.args.pair in
    let told : first_order k (map T c.args.lefts.now) (map T c.args.rights.now) ≡ Equal = sym c.order_of_next.ensures ∙ c.in-Equal.is in
    let x = c.index-lefts-0-in-Equal.result in
    let y = c.index-rights-0-in-Equal.result in
    let front = front_both k T c.args.lefts.now c.args.rights.now told x y c.index-lefts-0-in-Equal.is c.index-rights-0-in-Equal.is in
    let R = g.S.Semiring.set in
    let ts = map T c.args.lefts.now in
    let us = map T c.args.rights.now in
    let total = c.words_are_ordered.ensures.total in
    let equal = c.words_are_ordered.ensures.equal in
    both_stop R k ts us (T x) (T y) front.0.0 front.1.0 (same_of_both total equal R k ts us told (T x) (T y) front.0.1 front.1.1)
    c.args.from c.args.into.now (of_both total equal R k (T x) (T y)) (mixed_items R k (drop 1 ts) (drop 1 us))
    (takes_both total equal R k ts us (c.requires.lefts, c.requires.rights) told (T x) (T y) front.0.1 front.1.1) c.in-Err-lead_by_both.fault c.in-Err-lead_by_both.ensures.fault
