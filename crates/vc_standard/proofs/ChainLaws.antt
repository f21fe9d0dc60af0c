-- What a factor more does to a product that is being made.
use Rattle.std.proofs.Common.{◌≡◌, ℕ, List, [], ◌∷◌, ◌++◌, map, length, length-append, ◌+◌, ◌<◌, Bool, cond, ◌&&◌, sym, ap, ap₂, ◌∙◌, arith, refl, append_assoc, append-nil, inl, inr}
use Rattle.std.proofs.lemmas.List.{map-append}
use Rattle.vc_model.specs.Items.{Item}
use Rattle.vc_model.specs.Lists.{IsEqualityTest}
use Rattle.vc_model.specs.Members.{In-map_from, In-append_right}
use Rattle.vc_model.specs.Rearranged.{zero_times}
use Rattle.vc_model.specs.WordLaws.{and_parts}
use Rattle.std.specs.Prelude.{IsTrue}
use Rattle.vc_model.specs.WeightSet.{WeightSet, SemiringLaws}
use Rattle.vc_ring.specs.declared.faults.Overflow.{Overflow}
use Rattle.vc_ring.specs.declared.faults.Overflow.TheVariants.{Mul}
use Rattle.vc_terms.specs.ItemLists.{scaled_items}
use Rattle.vc_standard.specs.Automata.{states_of}
use Rattle.vc_standard.specs.Closed.{AreClosed, are_closed}
use Rattle.vc_standard.specs.Counts.{moves_in}
use Rattle.vc_standard.specs.Steps.{IsMultiple, IsAnyMultiple, IsProductStep}
use Rattle.vc_standard.specs.Structures.{Moves, Position, Standard, size_of, moved, moved_position, followed, chained}
use Rattle.vc_standard.proofs.CountLaws.{moves-append}

module _ {V : Type 0} where
  pub closed-append : (R : WeightSet V) (ps qs : List (Position V)) → AreClosed R ps → AreClosed R qs → AreClosed R (ps ++ qs)
  closed-append R [] qs h g = g
  closed-append R (p ∷ ps) qs h g = (h.0, closed-append R ps qs h.1 g)

  -- what only multiplies the transitions does not see where they lead
  pub multiple_moved : (k c : V) (n : ℕ) (xs : Moves V) (o : Overflow V) → IsMultiple k (record { final = c; moves = moved n xs }) o → IsMultiple k (record { final = c; moves = xs }) o
  multiple_moved k c n xs o (inl e) = inl e
  multiple_moved k c n xs o (inr h) =
      let r = In-map_from (λ (e : Item V ℕ). record { label = e.label; weight = e.weight; to = n + e.to }) h.0 xs h.1 in
      inr (r.0, r.1, h.2 ∙ ap (λ z. Mul k z.weight) r.2)

module _ {V : Type 0} {R : WeightSet V} (L : SemiringLaws R) (equal : V → V → Bool) (Q : IsEqualityTest equal) where
  -- the test tells whether all are closed
  pub closed_told : (ps : List (Position V)) → IsTrue (are_closed R equal ps) → AreClosed R ps
  closed_told [] h = tt
  closed_told (p ∷ ps) h = let r = and_parts (equal p.final R.zero) (are_closed R equal ps) h in ((Q p.final R.zero).0 r.0, closed_told ps r.1)

  pub closed_test : (ps : List (Position V)) → AreClosed R ps → IsTrue (are_closed R equal ps)
  closed_test [] h = refl
  closed_test (p ∷ ps) h = ap₂ ◌&&◌ ((Q p.final R.zero).1 h.0) (closed_test ps h.1)

  pub followed_closed : (xs : Moves V) (c : V) → c ≡ R.zero → (ps : List (Position V)) → AreClosed R (map (followed R equal xs c) ps)
  followed_closed xs c e [] = tt
  followed_closed xs c e (p ∷ ps) = (ap (R.times p.final) e ∙ L.times_zero p.final, followed_closed xs c e ps)

  kept : (xs : Moves V) (c : V) (p : Position V) → p.final ≡ R.zero → followed R equal xs c p ≡ p
  kept xs c p e =
      ap₂ (λ (k : V) (ms : Moves V). record { final = k; moves = ms })
      (ap (λ k. R.times k c) e ∙ zero_times L c ∙ sym e)
      (ap (λ b. p.moves ++ cond b [] (scaled_items R p.final xs)) ((Q p.final R.zero).1 e) ∙ append-nil p.moves)

  -- what is closed stays as it is
  pub closed_kept : (xs : Moves V) (c : V) (ps : List (Position V)) → AreClosed R ps → map (followed R equal xs c) ps ≡ ps
  closed_kept xs c [] h = refl
  closed_kept xs c (p ∷ ps) h = ap₂ (λ (q : Position V) (qs : List (Position V)). q ∷ qs) (kept xs c p h.0) (closed_kept xs c ps h.1)

  module _ (a : Position V) (closed ready : List (Position V)) (B : Standard V) (n : ℕ) (few : n ≡ length closed + length ready) (H : AreClosed R closed) where
    abbrev A : Standard V
    A = record { start = a; positions = closed ++ ready }

    abbrev go_on : ℕ → Position V → Position V
    go_on m p = followed R equal (moved m B.start.moves) B.start.final p

    size : n ≡ size_of A
    size = few ∙ sym (length-append closed ready)

    followed_all : map (go_on n) (closed ++ ready) ≡ closed ++ map (go_on n) ready
    followed_all = map-append (go_on n) closed ready ∙ ap (λ ps. ps ++ map (go_on n) ready) (closed_kept (moved n B.start.moves) B.start.final closed H)

    -- the product from its start and its positions
    pub chain_grown : (s : Position V) (some closed_now ready_now all : List (Position V)) → s ≡ go_on n a → some ≡ map (go_on n) ready
        → closed_now ++ ready_now ≡ closed ++ some → all ≡ ready_now ++ map (moved_position n) B.positions
        → ◌≡◌ {A = Standard V} (record { start = s; positions = closed_now ++ all }) (chained R equal A B)
    chain_grown s some closed_now ready_now all p q r t =
        ap₂ (λ (x : Position V) (ps : List (Position V)). record { start = x; positions = ps })
        (p ∙ ap (λ m. go_on m a) size)
        (ap (λ ps. closed_now ++ ps) t ∙ sym (append_assoc closed_now ready_now (map (moved_position n) B.positions))
        ∙ ap (λ ps. ps ++ map (moved_position n) B.positions) (r ∙ ap (λ ps. closed ++ ps) q ∙ sym followed_all)
        ∙ ap (λ m. map (go_on m) (closed ++ ready) ++ map (moved_position m) B.positions) size)

    parts : moves_in (states_of (chained R equal A B)) ≡ length (go_on n a).moves + (moves_in closed + moves_in (map (go_on n) ready) + moves_in (map (moved_position n) B.positions))
    parts =
        ap (λ m. moves_in (go_on m a ∷ (map (go_on m) (closed ++ ready) ++ map (moved_position m) B.positions))) (sym size)
        ∙ ap (λ k. length (go_on n a).moves + k) (moves-append (map (go_on n) (closed ++ ready)) (map (moved_position n) B.positions)
        ∙ ap (λ k. k + moves_in (map (moved_position n) B.positions)) (ap moves_in followed_all ∙ moves-append closed (map (go_on n) ready)))

    pub ready_large : (m : ℕ) → m < moves_in (map (go_on n) ready) → m < moves_in (states_of (chained R equal A B))
    ready_large m h = let e = parts in omega (arith, h, e)

    pub settled_large : (some : List (Position V)) → some ≡ map (go_on n) ready → (m : ℕ) → m < moves_in (closed ++ some) → m < moves_in (states_of (chained R equal A B))
    settled_large some q m h =
        let e = parts in
        let d : moves_in (closed ++ some) ≡ moves_in closed + moves_in (map (go_on n) ready) = moves-append closed some ∙ ap (λ ps. moves_in closed + moves_in ps) q in
        omega (arith, h, e, d)

    pub joined_large : (some closed_now ready_now : List (Position V)) → some ≡ map (go_on n) ready → closed_now ++ ready_now ≡ closed ++ some
        → (m : ℕ) → m < moves_in (ready_now ++ map (moved_position n) B.positions) → m < moves_in (states_of (chained R equal A B))
    joined_large some closed_now ready_now q r m h =
        let e = parts in
        let d : moves_in closed_now + moves_in ready_now ≡ moves_in closed + moves_in (map (go_on n) ready) =
        sym (moves-append closed_now ready_now) ∙ ap moves_in r ∙ moves-append closed some ∙ ap (λ ps. moves_in closed + moves_in ps) q in
        let k = moves-append ready_now (map (moved_position n) B.positions) in
        omega (arith, h, e, d, k)

    pub ready_step : (o : Overflow V) → IsAnyMultiple ready (record { final = B.start.final; moves = moved n B.start.moves }) o → IsProductStep A B o
    ready_step o h = (h.0, inr (In-append_right h.0 closed ready h.1), multiple_moved h.0.final B.start.final n B.start.moves o h.2)

    pub start_step : (o : Overflow V) → IsMultiple a.final (record { final = B.start.final; moves = moved n B.start.moves }) o → IsProductStep A B o
    start_step o h = (a, inl refl, multiple_moved a.final B.start.final n B.start.moves o h)
