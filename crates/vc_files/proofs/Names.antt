-- The search for a number and for a name.
use Rattle.std.proofs.Common.{◌≡◌, ◌≢◌, ◌<◌, ◌+◌, ℕ, zero, suc, List, [], ◌∷◌, map, length, drop, get_or, string_bytes, nat_eq, Bool, true, false, ◌||◌, eq-eqb, refl, inl, inr, sym, subst, ap₂, arith, ◌∙◌, ap}
use Rattle.std.proofs.lemmas.Cmp.{nat_list_eq_equiv}
use Rattle.std.proofs.lemmas.Bool.{and_parts, eqb-true}
use Rattle.std.specs.List.{list_any}
use lib.Pointwise.{pointwise}
use Rattle.vc_model.specs.Lists.{In}
use Rattle.vc_files.specs.declared.mem_files.MemFile.{MemFile}
use Rattle.vc_files.specs.Files.{Bytes, Held, Holds}
use Rattle.vc_files.specs.MemFile.{entry}

-- texts that are equal place by place are the same
pub names_same : (a b : List ℕ) → pointwise nat_eq a b ≡ true → a ≡ b
names_same [] [] h = refl
names_same [] (y ∷ b) h = absurd (cc h)
names_same (x ∷ a) [] h = absurd (cc h)
names_same (x ∷ a) (y ∷ b) h = let p = and_parts (nat_eq x y) (pointwise nat_eq a b) h in ap₂ (λ u v. u ∷ v) (eqb-true x y p.0) (names_same a b p.1)

-- texts that differ in some place are not the same
pub names_differ : (a b : List ℕ) → pointwise nat_eq a b ≡ false → a ≢ b
names_differ a b e q = absurd (cc (e, nat_list_eq_equiv.refl a, q))

-- a number that the test finds is a member
pub number_in : (n : ℕ) (ns : List ℕ) → list_any (λ k. nat_eq k n) ns ≡ true → In n ns
number_in n [] h = absurd (cc h)
number_in n (k ∷ ns) h = at (nat_eq k n) refl h (number_in n ns)
  where
    at : (b : Bool) → nat_eq k n ≡ b → (b || list_any (λ k. nat_eq k n) ns) ≡ true → (list_any (λ k. nat_eq k n) ns ≡ true → In n ns) → In n (k ∷ ns)
    at true e q rest = inl (sym (eqb-true k n e))
    at false e q rest = inr (rest q)

-- a number that the test does not find is no member
pub number_out : (n : ℕ) (ns : List ℕ) → list_any (λ k. nat_eq k n) ns ≡ false → ¬ In n ns
number_out n [] h i = i
number_out n (k ∷ ns) h i = at (nat_eq k n) refl h i (number_out n ns)
  where
    at : (b : Bool) → nat_eq k n ≡ b → (b || list_any (λ k. nat_eq k n) ns) ≡ false → In n (k ∷ ns) → (list_any (λ k. nat_eq k n) ns ≡ false → ¬ In n ns) → ⊥
    at true e q j rest = absurd (cc q)
    at false e q (inl j) rest = absurd (cc (e, eq-eqb k n (sym j)))
    at false e q (inr j) rest = rest q j

-- the file of this name is the same in both stores
pub record SameFile (some all : Held) (name : Bytes) : Type 0 where
  pub to : (bytes : Bytes) → Holds some name bytes → Holds all name bytes
  pub from : (bytes : Bytes) → Holds all name bytes → Holds some name bytes

-- a file of another name is passed over
pub passed : (fs : List MemFile) (i : ℕ) (f : MemFile) (name : Bytes) → i < length fs → f ≡ get_or fs i f → string_bytes f.name ≢ name → SameFile (map entry (drop (i + 1) fs)) (map entry (drop i fs)) name
passed [] i f name h e n = absurd (omega arith)
passed (x ∷ fs) zero f name h e n = record {
  to = λ b q. inr (λ z. n (ap (λ (y : MemFile). string_bytes y.name) e ∙ z), q);
  from = other;
}
  where
    other : (b : Bytes) → Holds (map entry (x ∷ fs)) name b → Holds (map entry fs) name b
    other b (inl p) = absurd (n (ap (λ (y : MemFile). string_bytes y.name) e ∙ p.0))
    other b (inr p) = p.1
passed (x ∷ fs) (suc i) f name h e n =
    let s : suc i + 1 ≡ suc (i + 1) = omega arith in
    subst (λ k. SameFile (map entry (drop k (x ∷ fs))) (map entry (drop (suc i) (x ∷ fs))) name) (sym s) (passed fs i f name (omega arith) e n)

-- a file of this name is found
pub met : (fs : List MemFile) (i : ℕ) (f : MemFile) (name : Bytes) → i < length fs → f ≡ get_or fs i f → string_bytes f.name ≡ name → Holds (map entry (drop i fs)) name f.bytes.items
met [] i f name h e q = absurd (omega arith)
met (x ∷ fs) zero f name h e q = inl (sym (ap (λ (y : MemFile). string_bytes y.name) e) ∙ q, ap (λ (y : MemFile). y.bytes.items) (sym e))
met (x ∷ fs) (suc i) f name h e q = met fs i f name (omega arith) e q
