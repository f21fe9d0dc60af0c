-- When an automaton has no empty circuit.
use Rattle.std.proofs.Common.{◌≡◌, ◌≢◌, ℕ, List, [], ◌∷◌, Bool, refl, sym, ap, ◌∙◌, ◌+◌, arith, length}
use Rattle.vc_model.specs.Lists.{In}
use Rattle.vc_model.specs.Words.{size, join, on}
use Rattle.vc_model.specs.Automata.{Transition, Automaton, path_label, NoEmptyCircuit, IsEmptyCircuit, NoCircuitOn}
use Rattle.vc_model.specs.WordLaws.{size-join, is_empty-size, size-is_empty, empty_from_size}
use Rattle.vc_model.specs.PathLaws.{length-path_label}
use Rattle.vc_model.specs.TapeSets.{on_all, size-on_empty}

module _ {V : Type 0} (tapes : ℕ) (A : Automaton V) (labels : (t : Transition V) → In t A.transitions → length t.label ≡ tapes) where
  pub NoEmptyCircuit-from : ((p : ℕ) (ts : List (Transition V)) → ¬ IsEmptyCircuit tapes A p ts) → NoEmptyCircuit tapes A
  NoEmptyCircuit-from none p t ts h b e =
      none p (t ∷ ts) (record {
        some = λ q. some t ts q;
        path = h;
        back = b;
        empty = is_empty-size (path_label tapes (t ∷ ts)) (ap (λ w. size w) (sym (on_all tapes (path_label tapes (t ∷ ts)) (length-path_label A tapes labels p (t ∷ ts) h))) ∙ e);
      })
    where
      some : {X : Type 0} (x : X) (xs : List X) → x ∷ xs ≡ [] → ⊥
      some x xs q = absurd (cc)

  pub NoEmptyCircuit-not : NoEmptyCircuit tapes A → (p : ℕ) (ts : List (Transition V)) → ¬ IsEmptyCircuit tapes A p ts
  NoEmptyCircuit-not N p [] c = c.some refl
  NoEmptyCircuit-not N p (t ∷ ts) c =
      N p t ts c.path c.back (ap (λ w. size w) (on_all tapes (path_label tapes (t ∷ ts)) (length-path_label A tapes labels p (t ∷ ts) c.path)) ∙ size-is_empty (path_label tapes (t ∷ ts)) c.empty)

  -- no label is empty
  pub proper-NoEmptyCircuit : ((t : Transition V) → In t A.transitions → size t.label ≢ 0) → NoEmptyCircuit tapes A
  proper-NoEmptyCircuit full p t ts h b e =
      let l = length-path_label A tapes labels t.to ts h.2 in
      let s : size (join t.label (path_label tapes ts)) ≡ size t.label + size (path_label tapes ts) = size-join t.label (path_label tapes ts) (labels t h.0 ∙ sym l) in
      let z : size (join t.label (path_label tapes ts)) ≡ 0 = ap (λ w. size w) (sym (on_all tapes (path_label tapes (t ∷ ts)) (length-path_label A tapes labels p (t ∷ ts) h))) ∙ e in
      full t h.0 (omega arith)

  -- no circuit is empty on some of the tapes
  pub NoCircuitOn-NoEmptyCircuit : (K : List Bool) → NoCircuitOn tapes K A → NoEmptyCircuit tapes A
  NoCircuitOn-NoEmptyCircuit K N p t ts h b e =
      let w = path_label tapes (t ∷ ts) in
      let z : size w ≡ 0 = ap (λ v. size v) (sym (on_all tapes w (length-path_label A tapes labels p (t ∷ ts) h))) ∙ e in
      N p t ts h b (ap (λ v. size (on K v)) (empty_from_size w z) ∙ size-on_empty K (length w))
