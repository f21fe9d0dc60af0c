-- A map by source, label and target adds up transitions as the definition says.
use Rattle.std.proofs.Common.{◌≡◌, ◌∙◌, sym, ap, subst, refl, ℕ, Bool, List, [], ◌∷◌, map, None, Some, nat_cmp, Less, Equal, Greater, Option, All}
use Rattle.std.specs.Option.{IfSome}
use Rattle.std.specs.Ordering.{ordering_then, match_ordering, is_eq}
use Rattle.std.specs.declared.cmp.Ordering.{Ordering}
use Rattle.std.specs.BTreeMap.{insert_entry, is_at}
use Rattle.std.specs.Map.{lookup, keys_of}
use Rattle.std.specs.List.Sorted.{IsStrictlySortedBy}
use Rattle.std.specs.Cmp.{IsTotalOrder, then_total, on_total, nat_cmp_total}
use Rattle.std.proofs.lemmas.Map.{lookup-none}
use Rattle.std.proofs.lemmas.Map.Entries.{lookup_head, lookup_tail, none_below_head, All-lookup}
use Rattle.std.proofs.lemmas.Map.Keys.{sorted_tail}
use Rattle.vc_label.specs.Order.{word_order}
use Rattle.vc_model.specs.Automata.{Transition}
use Rattle.vc_model.specs.WeightSet.{WeightSet}
use Rattle.vc_model.specs.Words.{Word}
use Rattle.vc_aut.specs.Order.{triple_order}
use Rattle.vc_aut.specs.Stored.{entry_transition}
use Rattle.vc_aut.specs.Sums.{insert_transition, standing}

-- keys by source, then by label, and then by target
abbrev pub key_order : {B : Type 0} → (B → B → Ordering) → ℕ × B × ℕ → ℕ × B × ℕ → Ordering
key_order labels x y = ordering_then (ordering_then (nat_cmp x.0 y.0) (labels x.1 y.1)) (nat_cmp x.2 y.2)

pub key_total : {B : Type 0} {labels : B → B → Ordering} → IsTotalOrder labels → IsTotalOrder (key_order labels)
key_total {B} t = then_total (then_total (on_total (λ (x : ℕ × B × ℕ). x.0) nat_cmp_total) (on_total (λ (x : ℕ × B × ℕ). x.1) t)) (on_total (λ (x : ℕ × B × ℕ). x.2) nat_cmp_total)

module _ {B V : Type 0} (labels : B → B → Ordering) (parts : B → Word) (R : WeightSet V)
    (ordered : (a b : B) → labels a b ≡ word_order (parts a) (parts b)) where
  -- the transitions that entries stand for
  abbrev those : List ((ℕ × B × ℕ) × V) → List (Transition V)
  those es = map (entry_transition parts) es

  agree : (k : ℕ × B × ℕ) (v : V) (e : (ℕ × B × ℕ) × V) → key_order labels k e.0 ≡ triple_order (entry_transition parts (k, v)) (entry_transition parts e)
  agree k v e = ap (λ o. ordering_then (ordering_then (nat_cmp k.0 e.0.0) o) (nat_cmp k.2 e.0.2)) (ordered k.1 e.0.1)

  pub standing_by_key : (es : List ((ℕ × B × ℕ) × V)) (k : ℕ × B × ℕ) (v : V) → standing (those es) (entry_transition parts (k, v)) ≡ lookup (is_at (key_order labels k)) es
  standing_by_key [] k v = refl
  standing_by_key (e ∷ es) k v = rw (← agree k v e, standing_by_key es k v) refl

  new_step : (e : (ℕ × B × ℕ) × V) (es : List ((ℕ × B × ℕ) × V)) (k : ℕ × B × ℕ) (v : V)
      → lookup (is_at (key_order labels k)) (e ∷ es) ≡ None
      → (lookup (is_at (key_order labels k)) es ≡ None → those (insert_entry (key_order labels) es k v) ≡ insert_transition R (those es) (entry_transition parts (k, v)))
      → (o : Ordering) → key_order labels k e.0 ≡ o
      → those (match_ordering o ((k, v) ∷ e ∷ es) ((e.0, v) ∷ es) (e ∷ insert_entry (key_order labels) es k v))
      ≡ match_ordering o (entry_transition parts (k, v) ∷ entry_transition parts e ∷ those es)
      (record (entry_transition parts e) { weight = R.plus e.1 v } ∷ those es)
      (entry_transition parts e ∷ insert_transition R (those es) (entry_transition parts (k, v)))
  new_step e es k v h ih Less q = refl
  new_step e es k v h ih Equal q = let f : lookup (is_at (key_order labels k)) (e ∷ es) ≡ Some e.1 = lookup_head (is_at (key_order labels k)) e es (ap is_eq q) in cc
  new_step e es k v h ih Greater q = ap (λ t. entry_transition parts e ∷ t) (ih (sym (lookup_tail (is_at (key_order labels k)) e es (ap is_eq q)) ∙ h))

  -- a new key
  pub insert_new : (es : List ((ℕ × B × ℕ) × V)) (k : ℕ × B × ℕ) (v : V) → lookup (is_at (key_order labels k)) es ≡ None
      → those (insert_entry (key_order labels) es k v) ≡ insert_transition R (those es) (entry_transition parts (k, v))
  insert_new [] k v h = refl
  insert_new (e ∷ es) k v h =
      subst (λ o. those (insert_entry (key_order labels) (e ∷ es) k v)
      ≡ match_ordering o (entry_transition parts (k, v) ∷ those (e ∷ es)) (record (entry_transition parts e) { weight = R.plus e.1 v } ∷ those es) (entry_transition parts e ∷ insert_transition R (those es) (entry_transition parts (k, v))))
      (agree k v e) (new_step e es k v h (insert_new es k v) (key_order labels k e.0) refl)

  old_step : IsTotalOrder labels → (e : (ℕ × B × ℕ) × V) (es : List ((ℕ × B × ℕ) × V)) (k : ℕ × B × ℕ) (v w old : V)
      → IsStrictlySortedBy (key_order labels) (keys_of (e ∷ es))
      → lookup (is_at (key_order labels k)) (e ∷ es) ≡ Some old → v ≡ R.plus old w
      → (lookup (is_at (key_order labels k)) es ≡ Some old → those (insert_entry (key_order labels) es k v) ≡ insert_transition R (those es) (entry_transition parts (k, w)))
      → (o : Ordering) → key_order labels k e.0 ≡ o
      → those (match_ordering o ((k, v) ∷ e ∷ es) ((e.0, v) ∷ es) (e ∷ insert_entry (key_order labels) es k v))
      ≡ match_ordering o (entry_transition parts (k, w) ∷ entry_transition parts e ∷ those es)
      (record (entry_transition parts e) { weight = R.plus e.1 w } ∷ those es)
      (entry_transition parts e ∷ insert_transition R (those es) (entry_transition parts (k, w)))
  old_step t e es k v w old s h a ih Less q =
      let f : lookup (is_at (key_order labels k)) (e ∷ es) ≡ None = lookup-none (is_at (key_order labels k)) (e ∷ es) (none_below_head (key_total t) k e es s q) in cc
  old_step t e es k v w old s h a ih Equal q =
      let f : lookup (is_at (key_order labels k)) (e ∷ es) ≡ Some e.1 = lookup_head (is_at (key_order labels k)) e es (ap is_eq q) in
      let same : e.1 ≡ old = cc in
      let sum : v ≡ R.plus e.1 w = rw same a in
      ap (λ (x : V). record (entry_transition parts e) { weight = x } ∷ those es) sum
  old_step t e es k v w old s h a ih Greater q =
      ap (λ us. entry_transition parts e ∷ us) (ih (sym (lookup_tail (is_at (key_order labels k)) e es (ap is_eq q)) ∙ h))

  -- a key that stands, whose value becomes old plus new
  pub insert_old : IsTotalOrder labels → (es : List ((ℕ × B × ℕ) × V)) (k : ℕ × B × ℕ) (v w old : V) → IsStrictlySortedBy (key_order labels) (keys_of es)
      → lookup (is_at (key_order labels k)) es ≡ Some old → v ≡ R.plus old w
      → those (insert_entry (key_order labels) es k v) ≡ insert_transition R (those es) (entry_transition parts (k, w))
  insert_old t [] k v w old s h a = cc
  insert_old t (e ∷ es) k v w old s h a =
      subst (λ o. those (insert_entry (key_order labels) (e ∷ es) k v)
      ≡ match_ordering o (entry_transition parts (k, w) ∷ those (e ∷ es)) (record (entry_transition parts e) { weight = R.plus e.1 w } ∷ those es) (entry_transition parts e ∷ insert_transition R (those es) (entry_transition parts (k, w))))
      (agree k w e) (old_step t e es k v w old s h a (λ g. insert_old t es k v w old (sorted_tail (key_order labels) e.0 (keys_of es) s) g a) (key_order labels k e.0) refl)

-- what a look-up finds is in range
pub found_in_range : {K V : Type 0} (P : V → Type 0) (test : K → Bool) (es : List (K × V)) (v : V) → All (λ e. P e.1) es → lookup test es ≡ Some v → P v
found_in_range P test es v all h = subst (λ (o : Option _). IfSome o P) h (All-lookup P test es all)
