-- Lines that are added one after the other.
use Rattle.std.proofs.Common.{◌≡◌, ◌+◌, ℕ, Bool, List, [], ◌∷◌, ◌<◌, length, Option, Some, Result, Ok, Err, refl, ap, sym, ◌∙◌, subst, inl, inr, arith}
use Rattle.std.specs.List.{flat_map}
use Rattle.vc_aut.specs.Drafts.{Draft}
use Rattle.vc_model.specs.WeightSet.{WeightSet}
use Rattle.vc_ring.specs.declared.faults.MakeFault.{MakeFault}
use Rattle.vc_ring.specs.declared.faults.MakeFault.TheVariants.{Overflow as Unfit, Limit as PastLimit, Memory as NoMemory}
use Rattle.vc_ring.specs.declared.faults.Overflow.TheVariants.{Numeral, Add, Mul, Star}
use Rattle.vc_reader.specs.declared.fault.DautFault.{DautFault}
use Rattle.vc_reader.specs.declared.fault.DautFault.TheVariants.{Syntax, NotALabel, Overflow, Limit, Memory}
use Rattle.vc_reader.specs.Building.{line_weights, with_all, IsAdded, IsRefused, AreTaken}
use Rattle.std.specs.Prelude.{unwrap_or}
use Rattle.std.specs.Option.{option_and_then}
use Rattle.std.specs.Result.{result_ok}
use Rattle.vc_lex.specs.Marks.{Mark, marks_of}
use Rattle.vc_lex.specs.declared.token.Mode.TheVariants as mode
use Rattle.vc_lines.specs.Grammar.{Line, blank, line_of}
use Rattle.vc_lines.specs.Lines.{lines_of, more_lines}
use Rattle.vc_reader.specs.Spelling.{line_in}
use Rattle.vc_reader.specs.Meaning.{Given}
use Rattle.vc_reader.specs.Passes.{AreAdded, IsRefusedAt, fault_at}
use Rattle.vc_reader.proofs.Additions.{refused_front, refused_back, taken_join, with_all-append, numbers_join}

module _ {V : Type 0} (R : WeightSet V) (spelled : List ℕ → Option V) (fit : List ℕ → Bool) (given : Line → List (Given V)) where
  -- whatever adds these lines from here on adds all
  abbrev pub LeadLines : ℕ → List Line → Draft V → ℕ → List Line → Draft V → Type 0
  LeadLines n ls d first all initial = (new : Draft V) (r : Result (Unit {0}) (DautFault V)) → AreAdded R spelled fit given n ls d new r → AreAdded R spelled fit given first all initial new r

  -- a line that was added is followed by more
  pub line_more : (n : ℕ) (l : Line) (ls : List Line) (d mid : Draft V) (u : Unit {0}) → IsAdded R spelled fit (line_weights l) d (given l) mid (Ok u) → LeadLines (n + 1) ls mid n (l ∷ ls) d
  line_more n l ls d mid u (e, t, k) new (Ok v) (f, t', k') = (
    f ∙ ap (λ x. with_all R x (flat_map given ls)) e ∙ sym (with_all-append R spelled fit d (given l) (flat_map given ls)),
    taken_join R spelled fit d (given l) (flat_map given ls) t (subst (λ x. AreTaken R x (flat_map given ls)) e t'),
    numbers_join R spelled fit (line_weights l) (flat_map line_weights ls) k k',
  )
  line_more n l ls d mid u (e, t, k) new (Err (Syntax line)) h = h
  line_more n l ls d mid u (e, t, k) new (Err (NotALabel line from to)) h = h
  line_more n l ls d mid u (e, t, k) new (Err (Overflow line (Numeral at))) h = inr h
  line_more n l ls d mid u (e, t, k) new (Err (Overflow line (Add v w))) h = inr (t, subst (λ x. IsRefusedAt R spelled fit given (n + 1) ls x line (Unfit (Add v w))) e h)
  line_more n l ls d mid u (e, t, k) new (Err (Overflow line (Mul v w))) h = h
  line_more n l ls d mid u (e, t, k) new (Err (Overflow line (Star v))) h = h
  line_more n l ls d mid u (e, t, k) new (Err (Limit m)) h = refused_back R spelled fit d (given l) (flat_map given ls) (PastLimit m) t (subst (λ x. IsRefused R x (flat_map given ls) (PastLimit m)) e h)
  line_more n l ls d mid u (e, t, k) new (Err (Memory x)) h = tt

  -- a line in which something is refused
  pub line_refused : (n : ℕ) (l : Line) (ls : List Line) (d mid new : Draft V) (f : MakeFault V) → IsAdded R spelled fit (line_weights l) d (given l) mid (Err f) → AreAdded R spelled fit given n (l ∷ ls) d new (Err (fault_at n f))
  line_refused n l ls d mid new (Unfit (Numeral at)) h = inl (refl, h)
  line_refused n l ls d mid new (Unfit (Add v w)) h = inl (refl, h)
  line_refused n l ls d mid new (Unfit (Mul v w)) h = h
  line_refused n l ls d mid new (Unfit (Star v)) h = h
  line_refused n l ls d mid new (PastLimit m) h = refused_front R spelled fit d (given l) (flat_map given ls) (PastLimit m) h
  line_refused n l ls d mid new (NoMemory x) h = tt

-- the line that a text is
pub line_is : {V : Type 0} (spelled : List ℕ → Option V) (text : List ℕ) (ms : List Mark) (l : Line) → marks_of mode.Line text ≡ Ok ms → Some l ≡ line_of spelled ms → line_in spelled text ≡ l
line_is spelled text ms l e f = ap (λ o. unwrap_or (option_and_then (line_of spelled) (result_ok o)) blank) e ∙ ap (λ o. unwrap_or o blank) (sym f)

-- lines after another line
pub some_lines : (s : List ℕ) → 0 < length s → more_lines s ≡ lines_of s
some_lines [] h = absurd (omega arith)
some_lines (x ∷ s) h = refl

pub no_lines : (s : List ℕ) → length s ≡ 0 → more_lines s ≡ []
no_lines [] h = refl
no_lines (x ∷ s) h = absurd (omega arith)
