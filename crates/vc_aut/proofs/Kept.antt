-- The numbers of the states that are kept.
use Rattle.std.proofs.Common.{◌≡◌, ◌≢◌, ℕ, ◌<◌, ◌≤◌, ◌+◌, List, [], ◌∷◌, ◌++◌, Bool, true, false, cond, ◌&&◌, ◌||◌, eqb, length, filter, get_or, Option, None, Some, refl, sym, ap, ap₂, ◌∙◌, inl, inr, subst, zero, suc, arith, length-append, append-nil, below_more}
use Rattle.std.specs.Option.{option_map}
use Rattle.std.proofs.lemmas.Bool.{eqb-true, eq-eqb}
use Rattle.std.proofs.Math.ListN.{get_or-append}
use Rattle.std.proofs.Math.Seq.{get_or-append_seam}
use Rattle.std.proofs.lemmas.List.Elements.{filter-append}
use Rattle.vc_model.specs.Lists.{In, IsIncreasing, below, up_from}
use Rattle.vc_model.specs.Machines.{place_in}
use Rattle.vc_model.specs.Members.{In-filter_from, In-up_from, up_from-more}
use Rattle.vc_model.specs.Numbering.{is_among}
use Rattle.vc_model.specs.WordLaws.{bool_same}
use Rattle.vc_aut.specs.Marks.{is_marked}
use Rattle.vc_aut.specs.Kept.{AreKept, place_among}

pub eqb_turned : (x y : ℕ) → eqb x y ≡ eqb y x
eqb_turned x y = bool_same (eqb x y) (eqb y x) (λ e. eq-eqb y x (sym (eqb-true x y e))) (λ e. eq-eqb x y (sym (eqb-true y x e)))

pub eqb_not : (x y : ℕ) → x ≢ y → eqb x y ≡ false
eqb_not x y n = go (eqb x y) refl
  where
    go : (b : Bool) → eqb x y ≡ b → b ≡ false
    go true e = absurd (n (eqb-true x y e))
    go false e = refl

-- the place by the first state
place_cons : (x : ℕ) (xs : List ℕ) (p : ℕ) → place_among (x ∷ xs) p ≡ cond (eqb p x) (Some 0) (option_map suc (place_among xs p))
place_cons x xs p = ap (λ b. cond (eqb p x || is_among eqb p xs) (Some (cond b 0 (suc (place_in eqb p xs)))) None) (eqb_turned x p) ∙ go (eqb p x) (is_among eqb p xs)
  where
    go : (b a : Bool) → cond (b || a) (Some (cond b 0 (suc (place_in eqb p xs)))) None ≡ cond b (Some 0) (option_map suc (cond a (Some (place_in eqb p xs)) None))
    go true a = refl
    go false true = refl
    go false false = refl

pub place_push : (kept : List ℕ) (n p : ℕ) → p ≢ n → place_among (kept ++ n ∷ []) p ≡ place_among kept p
place_push [] n p d = place_cons n [] p ∙ ap (λ b. cond b (Some 0) None) (eqb_not p n d)
place_push (x ∷ xs) n p d = place_cons x (xs ++ n ∷ []) p ∙ ap (λ o. cond (eqb p x) (Some 0) (option_map suc o)) (place_push xs n p d) ∙ sym (place_cons x xs p)

pub place_last : (kept : List ℕ) (n : ℕ) → ((x : ℕ) → In x kept → x < n) → place_among (kept ++ n ∷ []) n ≡ Some (length kept)
place_last [] n h = place_cons n [] n ∙ ap (λ b. cond b (Some 0) None) (eq-eqb n n refl)
place_last (x ∷ xs) n h =
    let l : x < n = h x (inl refl) in
    place_cons x (xs ++ n ∷ []) n ∙ ap₂ (λ b o. cond b (Some 0) (option_map suc o)) (eqb_not n x (omega arith)) (place_last xs n (λ y i. h y (inr i)))

pub place_none : (kept : List ℕ) (n : ℕ) → ((x : ℕ) → In x kept → x < n) → place_among kept n ≡ None
place_none [] n h = refl
place_none (x ∷ xs) n h =
    let l : x < n = h x (inl refl) in
    place_cons x xs n ∙ ap₂ (λ b o. cond b (Some 0) (option_map suc o)) (eqb_not n x (omega arith)) (place_none xs n (λ y i. h y (inr i)))

module _ (reached useful : List Bool) where
  abbrev keep : ℕ → Bool
  keep p = is_marked reached p && is_marked useful p

  kept_below : (n : ℕ) (x : ℕ) → In x (filter keep (below n)) → x < n
  kept_below n x i = let r = In-up_from x 0 n (In-filter_from keep x (below n) i).0 in let l : x < 0 + n = r.1 in omega arith

  kept_more : (n : ℕ) → filter keep (below (n + 1)) ≡ filter keep (below n) ++ cond (keep n) (n ∷ []) []
  kept_more n = ap (filter keep) (up_from-more 0 n ∙ ap (λ k. below n ++ k ∷ []) (omega arith)) ∙ filter-append keep (below n) (n ∷ [])

  pub kept_none : AreKept reached useful 0 [] []
  kept_none = record { are = refl; count = refl; place = λ p l. absurd (omega arith) }

  module _ (n : ℕ) (kept : List ℕ) (places : List (Option ℕ)) (h : AreKept reached useful n kept places) where
    bound : (x : ℕ) → In x kept → x < n
    bound x i = kept_below n x (subst (λ xs. In x xs) h.are i)

    older : (o : Option ℕ) (p : ℕ) → p < n → get_or (places ++ o ∷ []) p None ≡ place_among kept p
    older o p l = get_or-append places (o ∷ []) None p (subst (λ k. p < k) (sym h.count) l) ∙ h.place p l

    newest : (o : Option ℕ) → get_or (places ++ o ∷ []) n None ≡ o
    newest o = ap (λ k. get_or (places ++ o ∷ []) k None) (sym h.count) ∙ get_or-append_seam places o [] None

    pub kept_skip : keep n ≡ false → (after : List (Option ℕ)) → after ≡ places ++ None ∷ [] → AreKept reached useful (n + 1) kept after
    kept_skip d after is =
        record {
          are = h.are ∙ sym (append-nil (filter keep (below n))) ∙ sym (kept_more n ∙ ap (λ b. filter keep (below n) ++ cond b (n ∷ []) []) d);
          count = ap length is ∙ length-append places (None ∷ []) ∙ ap (λ k. k + 1) h.count;
          place = below_more (λ p. get_or after p None ≡ place_among kept p) n (λ p l. ap (λ ps. get_or ps p None) is ∙ older None p l) (ap (λ ps. get_or ps n None) is ∙ newest None ∙ sym (place_none kept n bound));
        }

    pub kept_take : keep n ≡ true → (after : List (Option ℕ)) (more : List ℕ) → after ≡ places ++ Some (length kept) ∷ [] → more ≡ kept ++ n ∷ [] → AreKept reached useful (n + 1) more after
    kept_take d after more is are =
        record {
          are = are ∙ ap (λ xs. xs ++ n ∷ []) h.are ∙ sym (kept_more n ∙ ap (λ b. filter keep (below n) ++ cond b (n ∷ []) []) d);
          count = ap length is ∙ length-append places (Some (length kept) ∷ []) ∙ ap (λ k. k + 1) h.count;
          place = below_more (λ p. get_or after p None ≡ place_among more p) n
              (λ p l. ap (λ ps. get_or ps p None) is ∙ older (Some (length kept)) p l ∙ sym (ap (λ xs. place_among xs p) are ∙ place_push kept n p (λ e. absurd (omega arith))))
              (ap (λ ps. get_or ps n None) is ∙ newest (Some (length kept)) ∙ sym (ap (λ xs. place_among xs n) are ∙ place_last kept n bound));
        }

-- what is kept of the numbers from s on is ascending
pub kept_increasing : (keep : ℕ → Bool) (s n : ℕ) → IsIncreasing (filter keep (up_from s n))
kept_increasing keep s zero = tt
kept_increasing keep s (suc n) = go (keep s) (kept_increasing keep (suc s) n)
  where
    go : (b : Bool) → IsIncreasing (filter keep (up_from (suc s) n)) → IsIncreasing (cond b (s ∷ filter keep (up_from (suc s) n)) (filter keep (up_from (suc s) n)))
    go true h = ((λ y i. let r = In-up_from y (suc s) n (In-filter_from keep y (up_from (suc s) n) i).0 in let l : suc s ≤ y = r.0 in omega arith), h)
    go false h = h
