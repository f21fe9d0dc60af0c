use Rattle.std.proofs.Common.{rules, ◌≡◌, ◌≤◌, true, false, ltb, leb}
use Rattle.std.specs.List.Sorted.{IsPartitionPoint}
use Rattle.std.proofs.lemmas.List.Sorted.{IsPartitionedBy-ltb, IsPartitionedBy-leb, IsPartitionPoint-from_clause}
use Rattle.vc_aut.specs.Stored.{transition_of}
use Rattle.vc_model.specs.Letters.{letter_of}
use Rattle.vc_eval.proofs.ReadingLaws.{run_reads, runs_in_order}
use Rattle.vc_eval.proofs.letters.reading.Goals as goal

pub slice_bounds-result-count : goal.slice_bounds-result-count
slice_bounds-result-count g c =
    let f = transition_of g.L.LabelSet.parts in
    let xs = c.args.transitions.now in
    let x = c.args.letter in
    runs_in_order f xs x c.partition_point-first.result c.partition_point-end.result
    (IsPartitionPoint-from_clause (λ y. ltb (letter_of (f y)) x) xs c.partition_point-first.result c.partition_point-first.ensures.partitioned (IsPartitionedBy-ltb (λ y. letter_of (f y)) xs x c.requires) (λ a r k h. search rules))
    (IsPartitionPoint-from_clause (λ y. leb (letter_of (f y)) x) xs c.partition_point-end.result c.partition_point-end.ensures.partitioned (IsPartitionedBy-leb (λ y. letter_of (f y)) xs x c.requires) (λ a r k h. search rules))
    c.partition_point-first.ensures.bound

pub slice_bounds-result-start : goal.slice_bounds-result-start
slice_bounds-result-start g c =
    let ordered : c.partition_point-first.result ≤ c.partition_point-end.result = slice_bounds-result-count g c in
    search rules

pub returns : goal.returns
returns g c =
    let f = transition_of g.L.LabelSet.parts in
    let xs = c.args.transitions.now in
    let x = c.args.letter in
    let i = c.partition_point-first.result in
    let j = c.partition_point-end.result in
    let before : IsPartitionPoint (λ y. ltb (letter_of (f y)) x ≡ true) (λ y. ltb (letter_of (f y)) x ≡ false) xs i =
    IsPartitionPoint-from_clause (λ y. ltb (letter_of (f y)) x) xs i c.partition_point-first.ensures.partitioned (IsPartitionedBy-ltb (λ y. letter_of (f y)) xs x c.requires) (λ a r k h. search rules) in
    let past : IsPartitionPoint (λ y. leb (letter_of (f y)) x ≡ true) (λ y. leb (letter_of (f y)) x ≡ false) xs j =
    IsPartitionPoint-from_clause (λ y. leb (letter_of (f y)) x) xs j c.partition_point-end.ensures.partitioned (IsPartitionedBy-leb (λ y. letter_of (f y)) xs x c.requires) (λ a r k h. search rules) in
    run_reads f xs x i j before past (runs_in_order f xs x i j before past c.partition_point-first.ensures.bound)
