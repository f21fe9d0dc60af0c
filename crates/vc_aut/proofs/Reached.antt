-- States that are reached along links, and the links that transitions make.
use Rattle.std.proofs.Common.{◌≡◌, ℕ, ◌<◌, ◌+◌, List, [], ◌∷◌, ◌++◌, Bool, true, false, cond, eqb, length, map, filter, set, take, get_or, refl, sym, ap, ◌∙◌, inl, inr, ◌⊎◌, subst, zero, suc, arith, length-append, append-nil, below_more}
use Rattle.std.specs.Prelude.{◌↔◌}
use Rattle.std.proofs.lemmas.Bool.{false≢true, eqb-true, eq-eqb}
use Rattle.std.proofs.lemmas.List.{length-set, map-append, take-map, take_more}
use Rattle.std.proofs.lemmas.List.Elements.{filter-append}
use Rattle.vc_model.specs.Automata.{Transition}
use Rattle.vc_model.specs.Lists.{In}
use Rattle.vc_model.specs.Members.{In-append_left, In-append_right, In-append_cases, In-filter, In-filter_from, In-map, In-map_from}
use Rattle.vc_aut.specs.Marks.{is_marked, unmarked, marked_kept, marked_cases, marked_here, unmarked_less}
use Rattle.vc_aut.specs.Links.{IsChain, IsFollowed, IsReached, far, last_of, linked, near}

-- what is read is a member
pub In-read : {X : Type 0} (xs : List X) (i : ℕ) (d : X) → i < length xs → In (get_or xs i d) xs
In-read [] i d l = absurd (omega arith)
In-read (x ∷ xs) zero d l = inl refl
In-read (x ∷ xs) (suc i) d l = inr (In-read xs i d (omega arith))

pub followed_none : (marks : List Bool) (open_ : List ℕ) → IsFollowed [] marks open_ marks open_
followed_none marks open_ =
    record { same = refl; all = λ q i. absurd i; kept = λ q m. m; source = λ q m. inl m; still = λ q i. i; inside = λ q i. inl i; count = refl }

-- a state that is marked already
pub followed_seen : (next : List ℕ) (marks : List Bool) (open_ : List ℕ) (after : List Bool) (later : List ℕ) (s : ℕ) → IsFollowed next marks open_ after later → is_marked after s ≡ true → IsFollowed (next ++ s ∷ []) marks open_ after later
followed_seen next marks open_ after later s h m =
    record {
      same = h.same;
      all = λ q i. elim (In-append_cases q next (s ∷ []) i) [
        | inl j ↦ h.all q j
        | inr (inl e) ↦ subst (λ p. is_marked after p ≡ true) (sym e) m
        | inr (inr j) ↦ absurd j
      ];
      kept = h.kept;
      source = λ q k. elim (h.source q k) [ inl o ↦ inl o | inr p ↦ inr (In-append_left q next (s ∷ []) p.0, p.1) ];
      still = h.still;
      inside = λ q i. elim (h.inside q i) [ inl j ↦ inl j | inr j ↦ inr (In-append_left q next (s ∷ []) j) ];
      count = h.count;
    }

-- a state that was not marked
pub followed_new : (next : List ℕ) (marks : List Bool) (open_ : List ℕ) (after : List Bool) (later : List ℕ) (s : ℕ) → IsFollowed next marks open_ after later → is_marked after s ≡ false → s < length after
    → IsFollowed (next ++ s ∷ []) marks open_ (set after s true) (later ++ s ∷ [])
followed_new next marks open_ after later s h m l =
    let u : unmarked (set after s true) + 1 ≡ unmarked after = unmarked_less after s l m in
    let c : unmarked after + length later ≡ unmarked marks + length open_ = h.count in
    record {
      same = length-set after s true ∙ h.same;
      all = λ q i. elim (In-append_cases q next (s ∷ []) i) [
        | inl j ↦ marked_kept after s q (h.all q j)
        | inr (inl e) ↦ subst (λ p. is_marked (set after s true) p ≡ true) (sym e) (marked_here after s l)
        | inr (inr j) ↦ absurd j
      ];
      kept = λ q k. marked_kept after s q (h.kept q k);
      source = λ q k. elim (marked_cases after s q k) [
        | inl e ↦ inr (In-append_right q next (s ∷ []) (inl e), In-append_right q later (s ∷ []) (inl e))
        | inr k ↦ elim (h.source q k) [ inl o ↦ inl o | inr p ↦ inr (In-append_left q next (s ∷ []) p.0, In-append_left q later (s ∷ []) p.1) ]
      ];
      still = λ q i. In-append_left q later (s ∷ []) (h.still q i);
      inside = λ q i. elim (In-append_cases q later (s ∷ []) i) [
        | inl j ↦ elim (h.inside q j) [ inl o ↦ inl o | inr o ↦ inr (In-append_left q next (s ∷ []) o) ]
        | inr j ↦ inr (In-append_right q next (s ∷ []) j)
      ];
      count = omega (arith, length-append later (s ∷ []));
    }

-- what holds while states are reached: what is marked is reached, and all its links were followed, or it waits
pub record IsReaching (next : ℕ → List ℕ) (first marks : List Bool) (open_ : List ℕ) : Type 0 where
  pub same : length marks ≡ length first
  pub sound : (q : ℕ) → is_marked marks q ≡ true → IsReached next first q
  pub kept : (q : ℕ) → is_marked first q ≡ true → is_marked marks q ≡ true
  pub edges : (p q : ℕ) → is_marked marks p ≡ true → In q (next p) → (is_marked marks q ≡ true) ⊎ In p open_
  pub waiting : (q : ℕ) → In q open_ → is_marked marks q ≡ true

module _ (next : ℕ → List ℕ) (first : List Bool) where
  chain_more : (p : ℕ) (qs : List ℕ) (q : ℕ) → IsChain next p qs → In q (next (last_of p qs)) → IsChain next p (qs ++ q ∷ []) × (last_of p (qs ++ q ∷ []) ≡ q)
  chain_more p [] q h i = ((i, tt), refl)
  chain_more p (r ∷ rs) q h i = let c = chain_more r rs q h.1 i in ((h.0, c.0), c.1)

  pub reaching_none : (open_ : List ℕ) → ((q : ℕ) → (is_marked first q ≡ true) ↔ In q open_) → IsReaching next first first open_
  reaching_none open_ h =
      record {
        same = refl;
        sound = λ q m. record { start = q; begins = m; chain = []; is = tt; ends = refl };
        kept = λ q m. m;
        edges = λ p q m i. inr ((h p).0 m);
        waiting = λ q i. (h q).1 i;
      }

  pub reaching_more : (marks : List Bool) (open_ rest : List ℕ) (s : ℕ) (after : List Bool) (later : List ℕ) → IsReaching next first marks open_ → open_ ≡ rest ++ s ∷ [] → IsFollowed (next s) marks rest after later → IsReaching next first after later
  reaching_more marks open_ rest s after later h is f =
      let m : is_marked marks s ≡ true = h.waiting s (subst (λ xs. In s xs) (sym is) (In-append_right s rest (s ∷ []) (inl refl))) in
      record {
        same = f.same ∙ h.same;
        sound = λ q k. elim (f.source q k) [
          | inl o ↦ h.sound q o
          | inr p ↦
              let r = h.sound s m in
              let c = chain_more r.start r.chain q r.is (subst (λ x. In q (next x)) (sym r.ends) p.0) in
              record { start = r.start; begins = r.begins; chain = r.chain ++ q ∷ []; is = c.0; ends = c.1 }
        ];
        kept = λ q k. f.kept q (h.kept q k);
        edges = λ p q k i. elim (f.source p k) [
          | inl o ↦ elim (h.edges p q o i) [
            | inl n ↦ inl (f.kept q n)
            | inr j ↦ elim (In-append_cases p rest (s ∷ []) (subst (λ xs. In p xs) is j)) [
              | inl w ↦ inr (f.still p w)
              | inr (inl e) ↦ inl (f.all q (subst (λ x. In q (next x)) e i))
              | inr (inr w) ↦ absurd w
            ]
          ]
          | inr o ↦ inr o.1
        ];
        waiting = λ q i. elim (f.inside q i) [
          | inl j ↦ f.kept q (h.waiting q (subst (λ xs. In q xs) (sym is) (In-append_left q rest (s ∷ []) j)))
          | inr j ↦ f.all q j
        ];
      }

  pub reaching_all : (marks : List Bool) → IsReaching next first marks [] → (q : ℕ) → (is_marked marks q ≡ true) ↔ IsReached next first q
  reaching_all marks h q = (h.sound q, (λ r. subst (λ x. is_marked marks x ≡ true) r.ends (along r.start r.chain (h.kept r.start r.begins) r.is)))
    where
      along : (p : ℕ) (qs : List ℕ) → is_marked marks p ≡ true → IsChain next p qs → is_marked marks (last_of p qs) ≡ true
      along p [] m c = m
      along p (q ∷ qs) m c = along q qs (elim (h.edges p q m c.0) [ inl n ↦ n | inr i ↦ absurd i ]) c.1

-- one transition more
pub linked-more : {V : Type 0} (back : Bool) (ts : List (Transition V)) (t : Transition V) (p : ℕ) → linked back (ts ++ t ∷ []) p ≡ cond (eqb (near back t) p) (linked back ts p ++ far back t ∷ []) (linked back ts p)
linked-more {V} back ts t p =
    ap (map (far back)) (filter-append (λ (u : Transition V). eqb (near back u) p) ts (t ∷ [])) ∙ map-append (far back) (filter (λ (u : Transition V). eqb (near back u) p) ts) (filter (λ (u : Transition V). eqb (near back u) p) (t ∷ []))
    ∙ go (eqb (near back t) p)
  where
    go : (b : Bool) → linked back ts p ++ map (far back) (cond b (t ∷ []) []) ≡ cond b (linked back ts p ++ far back t ∷ []) (linked back ts p)
    go true = refl
    go false = append-nil (linked back ts p)

-- where links lead
pub linked-In : {V : Type 0} (back : Bool) (ts : List (Transition V)) (p q : ℕ) → In q (linked back ts p) → (t : Transition V) × In t ts × (near back t ≡ p) × (q ≡ far back t)
linked-In {V} back ts p q i =
    let m = In-map_from (far back) q (filter (λ (u : Transition V). eqb (near back u) p) ts) i in
    let f = In-filter_from (λ (u : Transition V). eqb (near back u) p) m.0 ts m.1 in
    (m.0, f.0, eqb-true (near back m.0) p f.1, m.2)

pub In-linked : {V : Type 0} (back : Bool) (ts : List (Transition V)) (t : Transition V) → In t ts → In (far back t) (linked back ts (near back t))
In-linked {V} back ts t i =
    In-map (far back) t (filter (λ (u : Transition V). eqb (near back u) (near back t)) ts) (In-filter (λ (u : Transition V). eqb (near back u) (near back t)) t ts i (eq-eqb (near back t) (near back t) refl))

module _ {X V : Type 0} (f : X → Transition V) (xs : List X) (ts : List (Transition V)) (e : map f xs ≡ ts) (i : ℕ) (x : X) (l : i < length xs) (r : x ≡ get_or xs i x) where
  -- what is read stands for a member
  pub read_member : In (f x) ts
  read_member = subst (λ us. In (f x) us) e (In-map f x xs (subst (λ y. In y xs) (sym r) (In-read xs i x l)))

  -- one more is taken
  pub read_more : take (i + 1) ts ≡ take i ts ++ f x ∷ []
  read_more =
      ap (take (i + 1)) (sym e) ∙ take-map f (i + 1) xs ∙ ap (map f) (take_more xs i x l ∙ ap (λ y. take i xs ++ y ∷ []) (sym r)) ∙ map-append f (take i xs) (x ∷ [])
      ∙ ap (λ us. us ++ f x ∷ []) (sym (take-map f i xs) ∙ ap (take i) e)

module _ (marks : List Bool) (s : ℕ) (states : List ℕ) (h : (q : ℕ) → ((q < s) × (is_marked marks q ≡ true)) ↔ In q states) where
  at_or_below : (q : ℕ) → q < s + 1 → (q < s) ⊎ (q ≡ s)
  at_or_below q l = below_more (λ k. (k < s) ⊎ (k ≡ s)) s (λ k m. inl m) (inr refl) q l

  pub marked_skip : is_marked marks s ≡ false → (q : ℕ) → ((q < s + 1) × (is_marked marks q ≡ true)) ↔ In q states
  marked_skip n q = (
    (λ p. elim (at_or_below q p.0) [
      | inl l ↦ (h q).0 (l, p.1)
      | inr e ↦ absurd (false≢true (sym n ∙ subst (λ k. is_marked marks k ≡ true) e p.1))
    ]),
    (λ i. let r = (h q).1 i in let l : q < s = r.0 in (omega arith, r.1)),
  )

  pub marked_take : is_marked marks s ≡ true → (q : ℕ) → ((q < s + 1) × (is_marked marks q ≡ true)) ↔ In q (states ++ s ∷ [])
  marked_take n q = (
    (λ p. elim (at_or_below q p.0) [
      | inl l ↦ In-append_left q states (s ∷ []) ((h q).0 (l, p.1))
      | inr e ↦ In-append_right q states (s ∷ []) (inl e)
    ]),
    (λ i. elim (In-append_cases q states (s ∷ []) i) [
      | inl j ↦ (let r = (h q).1 j in let l : q < s = r.0 in (omega arith, r.1))
      | inr (inl e) ↦ (omega (arith, e), subst (λ k. is_marked marks k ≡ true) (sym e) n)
      | inr (inr j) ↦ absurd j
    ]),
  )
