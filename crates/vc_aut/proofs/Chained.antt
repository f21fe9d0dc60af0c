-- Links by which transitions are gone along backwards, and lists of states that are followed in parts.
use Rattle.std.proofs.Common.{◌≡◌, ◌≢◌, ℕ, ◌<◌, ◌≤◌, ◌+◌, ◌-◌, List, [], ◌∷◌, ◌++◌, Bool, true, cond, eqb, length, map, filter, set, take, drop, get_or, refl, sym, ap, ◌∙◌, inl, inr, ◌⊎◌, subst, arith, replicate}
use Rattle.std.specs.Prelude.{◌↔◌}
use Rattle.std.proofs.lemmas.Bool.{cases_eq, cases_lt, eq-eqb}
use Rattle.std.proofs.lemmas.List.{length-set, length-take-le, take_all, take-append-le, take-append-drop, drop_all, drop-append-le, drop_more, get_or-set_same, get_or-set_other, get_or-take, get_or_append_left, get_or_push, get_or-map, get_or-replicate, length_push, length-replicate, map-append}
use Rattle.std.proofs.lemmas.List.Elements.{filter-append}
use Rattle.vc_model.specs.Automata.{Transition}
use Rattle.vc_model.specs.Lists.{In}
use Rattle.vc_model.specs.Members.{In-append_left, In-append_right, In-append_cases}
use Rattle.vc_aut.proofs.Kept.{eqb_not}
use Rattle.vc_aut.proofs.Reached.{linked-more}
use Rattle.vc_aut.specs.Links.{AreLinks, IsFollowed, IsLink, far, linked}

-- a list is followed where two that have its members are followed one after the other
pub followed_both : (xs ys zs : List ℕ) → ((q : ℕ) → In q zs ↔ (In q xs ⊎ In q ys)) → (m : List Bool) (w : List ℕ) (n : List Bool) (v : List ℕ) (o : List Bool) (u : List ℕ)
    → IsFollowed xs m w n v → IsFollowed ys n v o u → IsFollowed zs m w o u
followed_both xs ys zs members m w n v o u h k =
    record {
      same = k.same ∙ h.same;
      all = λ q i. elim ((members q).0 i) [ inl j ↦ k.kept q (h.all q j) | inr j ↦ k.all q j ];
      kept = λ q i. k.kept q (h.kept q i);
      source = λ q i. elim (k.source q i) [
        | inl j ↦ elim (h.source q j) [ inl a ↦ inl a | inr a ↦ inr ((members q).1 (inl a.0), k.still q a.1) ]
        | inr j ↦ inr ((members q).1 (inr j.0), j.1)
      ];
      still = λ q i. k.still q (h.still q i);
      inside = λ q i. elim (k.inside q i) [
        | inl j ↦ elim (h.inside q j) [ inl a ↦ inl a | inr a ↦ inr ((members q).1 (inl a)) ]
        | inr j ↦ inr ((members q).1 (inr j))
      ];
      count = k.count ∙ h.count;
    }

-- one more behind the list
pub followed_push : (xs : List ℕ) (s : ℕ) (m : List Bool) (w : List ℕ) (n : List Bool) (v : List ℕ) (o : List Bool) (u : List ℕ) → IsFollowed xs m w n v → IsFollowed (s ∷ []) n v o u → IsFollowed (xs ++ s ∷ []) m w o u
followed_push xs s m w n v o u h k =
    followed_both xs (s ∷ []) (xs ++ s ∷ [])
    (λ q. ((λ i. In-append_cases q xs (s ∷ []) i), (λ i. elim i [ inl j ↦ In-append_left q xs (s ∷ []) j | inr j ↦ In-append_right q xs (s ∷ []) j ])))
    m w n v o u h k

-- one more before the list
pub followed_before : (xs : List ℕ) (s : ℕ) (m : List Bool) (w : List ℕ) (n : List Bool) (v : List ℕ) (o : List Bool) (u : List ℕ) → IsFollowed xs m w n v → IsFollowed (s ∷ []) n v o u → IsFollowed (s ∷ xs) m w o u
followed_before xs s m w n v o u h k =
    followed_both xs (s ∷ []) (s ∷ xs)
    (λ q. ((λ i. elim i [ inl e ↦ inr (inl e) | inr j ↦ inl j ]), (λ i. elim i [ inl j ↦ inr j | inr j ↦ elim j [ inl e ↦ inl e | inr b ↦ absurd b ] ])))
    m w n v o u h k

-- what a place of a list stands for
pub read_at : {X V : Type 0} (f : X → Transition V) (xs : List X) (ts : List (Transition V)) → map f xs ≡ ts → (i : ℕ) (x : X) → i < length xs → x ≡ get_or xs i x → (d : Transition V) → f x ≡ get_or ts i d
read_at f xs ts e i x l r d = ap f r ∙ sym (get_or-map f xs i x d l) ∙ ap (λ us. get_or us i d) e

module _ {V : Type 0} where
  linked-append : (ts us : List (Transition V)) (p : ℕ) → linked true (ts ++ us) p ≡ linked true ts p ++ linked true us p
  linked-append ts us p =
      ap (map (far true)) (filter-append (λ (u : Transition V). eqb u.to p) ts us)
      ∙ map-append (far true) (filter (λ (u : Transition V). eqb u.to p) ts) (filter (λ (u : Transition V). eqb u.to p) us)

  linked_first : (t : Transition V) (ts : List (Transition V)) (p : ℕ) → t.to ≡ p → linked true (t ∷ ts) p ≡ t.from ∷ linked true ts p
  linked_first t ts p e = let b : eqb t.to p ≡ true = eq-eqb t.to p e in rw b refl

  no_link : (ts : List (Transition V)) (p : ℕ) → ts ≡ [] → IsLink ts p 0
  no_link ts p z = record { within = omega arith; none = ap (λ (us : List (Transition V)). linked true us p) z; leads = λ k d. absurd (omega arith) }

  -- no transition, no link
  pub links_none : (ts : List (Transition V)) (n : ℕ) (last before : List ℕ) → ts ≡ [] → last ≡ replicate n 0 → before ≡ [] → AreLinks ts n last before
  links_none ts n last before z e f =
      let none : length ts ≡ 0 = ap (λ (us : List (Transition V)). length us) z in
      let empty : length before ≡ 0 = ap (λ (xs : List ℕ). length xs) f in
      record {
        states = ap (λ (xs : List ℕ). length xs) e ∙ length-replicate n 0;
        count = empty ∙ sym none;
        ends = λ p d l. subst (λ k. IsLink ts p k) (sym (ap (λ (xs : List ℕ). get_or xs p d) e ∙ get_or-replicate n p 0 d l)) (no_link ts p z);
        steps = λ i d t l. absurd (omega arith);
      }

  module _ (ts : List (Transition V)) (t : Transition V) where
    -- the link of a target, after its transition
    link_new : IsLink (ts ++ t ∷ []) t.to (length ts + 1)
    link_new =
        record {
          within = (let e : length (ts ++ t ∷ []) ≡ length ts + 1 = length_push ts t in omega arith);
          none = ap (λ us. linked true us t.to) (drop_all (length ts + 1) (ts ++ t ∷ []) (let e : length (ts ++ t ∷ []) ≡ length ts + 1 = length_push ts t in omega arith));
          leads = λ k d. ap (λ (u : Transition V). u.to) (get_or_push ts t d (length ts + 1 - 1) (omega arith));
        }

    -- the links of the others stay
    link_kept : (p k : ℕ) → t.to ≢ p → IsLink ts p k → IsLink (ts ++ t ∷ []) p k
    link_kept p k n h =
        let w : k ≤ length ts = h.within in
        record {
          within = (let e : length (ts ++ t ∷ []) ≡ length ts + 1 = length_push ts t in omega arith);
          none = ap (λ us. linked true us p) (drop-append-le k ts (t ∷ []) w) ∙ linked-more true (drop k ts) t p ∙ ap (λ b. cond b (linked true (drop k ts) p ++ t.from ∷ []) (linked true (drop k ts) p)) (eqb_not t.to p n) ∙ h.none;
          leads = λ l d. ap (λ (u : Transition V). u.to) (get_or_append_left ts (t ∷ []) d (k - 1) (omega arith)) ∙ h.leads l d;
        }

    pub links_more : (n : ℕ) (last before : List ℕ) (x link : ℕ) → AreLinks ts n last before → t.to < n → ((d : ℕ) → x ≡ get_or last t.to d) → link ≡ length ts + 1 → AreLinks (ts ++ t ∷ []) n (set last t.to link) (before ++ x ∷ [])
    links_more n last before x link h l read is =
        let inside : t.to < length last = subst (λ k. t.to < k) (sym h.states) l in
        record {
          states = length-set last t.to link ∙ h.states;
          count = length_push before x ∙ ap (λ k. k + 1) h.count ∙ sym (length_push ts t);
          ends = λ p d k. elim (cases_eq p t.to) [
            | inl e ↦ subst (λ q. IsLink (ts ++ t ∷ []) q (get_or (set last t.to link) q d)) (sym e)
                (subst (λ k. IsLink (ts ++ t ∷ []) t.to k) (sym (get_or-set_same last t.to link d inside ∙ is)) link_new)
            | inr n ↦ subst (λ k. IsLink (ts ++ t ∷ []) p k) (sym (get_or-set_other last t.to p link d n)) (link_kept p (get_or last p d) (λ e. n (sym e)) (h.ends p d k))
          ];
          steps = λ i d u k. elim (cases_lt i (length ts)) [
            | inl m ↦
                let b : i < length before = subst (λ j. i < j) (sym h.count) m in
                subst (λ us. IsLink us (get_or (ts ++ t ∷ []) i u).to (get_or (before ++ x ∷ []) i d)) (sym (take-append-le i ts (t ∷ []) (omega arith)))
                (subst (λ (v : Transition V). IsLink (take i ts) v.to (get_or (before ++ x ∷ []) i d)) (sym (get_or_append_left ts (t ∷ []) u i m))
                (subst (λ j. IsLink (take i ts) (get_or ts i u).to j) (sym (get_or_append_left before (x ∷ []) d i b)) (h.steps i d u m)))
            | inr m ↦
                let len : length (ts ++ t ∷ []) ≡ length ts + 1 = length_push ts t in
                let e : i ≡ length ts = omega arith in
                subst (λ j. IsLink (take j (ts ++ t ∷ [])) (get_or (ts ++ t ∷ []) j u).to (get_or (before ++ x ∷ []) j d)) (sym e)
                (subst (λ us. IsLink us (get_or (ts ++ t ∷ []) (length ts) u).to (get_or (before ++ x ∷ []) (length ts) d)) (sym (take-append-le (length ts) ts (t ∷ []) (omega arith) ∙ take_all (length ts) ts (omega arith)))
                (subst (λ (v : Transition V). IsLink ts v.to (get_or (before ++ x ∷ []) (length ts) d)) (sym (get_or_push ts t u (length ts) refl))
                (subst (λ j. IsLink ts t.to j) (sym (get_or_push before x d (length ts) h.count ∙ read d)) (h.ends t.to d l))))
          ];
        }

  -- the transitions to p from the link on are followed, and before it one leads to p
  pub record IsGoing (ts : List (Transition V)) (p link : ℕ) (m : List Bool) (w : List ℕ) (n : List Bool) (v : List ℕ) : Type 0 where
    pub within : link ≤ length ts
    pub leads : 0 < link → (d : Transition V) → (get_or ts (link - 1) d).to ≡ p
    pub done : IsFollowed (linked true (drop link ts) p) m w n v

  pub going_first : (ts : List (Transition V)) (p link : ℕ) (m : List Bool) (w : List ℕ) → IsLink ts p link → IsFollowed [] m w m w → IsGoing ts p link m w m w
  going_first ts p link m w h f = record { within = h.within; leads = h.leads; done = subst (λ xs. IsFollowed xs m w m w) (sym h.none) f }

  pub going_more : (ts : List (Transition V)) (p link at k : ℕ) (t : Transition V) (m : List Bool) (w : List ℕ) (n : List Bool) (v : List ℕ) (o : List Bool) (u : List ℕ)
      → IsGoing ts p link m w n v → 0 < link → at ≡ link - 1 → ((d : Transition V) → t ≡ get_or ts at d) → IsFollowed (t.from ∷ []) n v o u → IsLink (take at ts) t.to k → IsGoing ts p k m w o u
  going_more ts p link at k t m w n v o u h l e r f g =
      let i : link ≤ length ts = h.within in
      let a : at < length ts = omega arith in
      let len : length (take at ts) ≡ at = length-take-le at ts (omega arith) in
      let small : k ≤ length (take at ts) = g.within in
      let to : t.to ≡ p = ap (λ (u : Transition V). u.to) (r t) ∙ ap (λ j. (get_or ts j t).to) e ∙ h.leads l t in
      let c : IsLink (take at ts) p k = subst (λ q. IsLink (take at ts) q k) to g in
      let rest : drop at ts ≡ t ∷ drop link ts = drop_more ts at t a ∙ ap (λ (y : Transition V). y ∷ drop (at + 1) ts) (sym (r t)) ∙ ap (λ j. t ∷ drop j ts) (omega arith) in
      let all : drop k ts ≡ drop k (take at ts) ++ drop at ts = ap (drop k) (sym (take-append-drop at ts)) ∙ drop-append-le k (take at ts) (drop at ts) small in
      let links : linked true (drop k ts) p ≡ t.from ∷ linked true (drop link ts) p =
      ap (λ us. linked true us p) all ∙ linked-append (drop k (take at ts)) (drop at ts) p ∙ ap (λ xs. xs ++ linked true (drop at ts) p) c.none ∙ ap (λ us. linked true us p) rest ∙ linked_first t (drop link ts) p to in
      record {
        within = omega arith;
        leads = λ z d. sym (ap (λ (u : Transition V). u.to) (get_or-take at ts (k - 1) d (omega arith))) ∙ c.leads z d;
        done = subst (λ xs. IsFollowed xs m w o u) (sym links) (followed_before (linked true (drop link ts) p) t.from m w n v o u h.done f);
      }

  pub going_less : (ts : List (Transition V)) (p link at k : ℕ) (m : List Bool) (w : List ℕ) (n : List Bool) (v : List ℕ) (q : ℕ) → IsGoing ts p link m w n v → 0 < link → at ≡ link - 1 → IsLink (take at ts) q k → k < link
  going_less ts p link at k m w n v q h l e g =
      let i : link ≤ length ts = h.within in
      let len : length (take at ts) ≡ at = length-take-le at ts (omega arith) in
      let small : k ≤ length (take at ts) = g.within in
      omega arith

  pub going_all : (ts : List (Transition V)) (p link : ℕ) (m : List Bool) (w : List ℕ) (n : List Bool) (v : List ℕ) → link ≡ 0 → IsGoing ts p link m w n v → IsFollowed (linked true ts p) m w n v
  going_all ts p link m w n v e h = subst (λ k. IsFollowed (linked true (drop k ts) p) m w n v) e h.done
