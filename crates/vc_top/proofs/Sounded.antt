-- A file whose circuit is refused is not read.
use Rattle.std.proofs.Common.{◌≡◌, Bool, List, Result, Ok, Err, sym, subst, inl, inr}
use Rattle.vc_aut.specs.Labelled.{Labelled}
use Rattle.vc_files.specs.Files.{Bytes}
use Rattle.vc_label.specs.declared.tape_set.TapeSet.{TapeSet}
use Rattle.vc_lines.specs.Heads.{HeadLine}
use Rattle.vc_ring.specs.Texts.{WeightTexts}
use Rattle.vc_top.specs.Inputs.{HasRefusedCircuit, Input, IsSoundInput, ReadsFile, ReadsLines, ReadsSound, ReadsText, SoundOnly}
use Rattle.vc_top.specs.Outcomes.{OrMemory}
use Rattle.vc_top.specs.Reasons.{Reason, empty_circuit, no_memory}
use Rattle.vc_top.specs.Seen.{Seen}
use Rattle.vc_top.specs.Sets.{absorbs, texts_of}
use Rattle.vc_top.proofs.Outcomes.{then_given, then_refused}

abbrev given : {X : Type 0} → X → Result X Reason
given x = Ok x

abbrev refused : {X : Type 0} → Reason → Result X Reason
refused r = Err r

same_given : {X : Type 0} (x y : X) → given x ≡ given y → x ≡ y
same_given x y e = cc e

no_given : {X : Type 0} (x : X) (r : Reason) → given x ≡ refused r → ⊥
no_given x r e = cc e

-- what was read of the lines, and whether a circuit of it is refused
module _ {V : Type 0} (T : WeightTexts V) (is_absorbing : Bool) (file : Bytes) (sets : List TapeSet) (h : HeadLine) where
  pub lines_sound : (a : Labelled V) (r : Result (Labelled V) Reason) → OrMemory (ReadsLines T file sets h) (Ok a) → OrMemory (SoundOnly is_absorbing a) r → OrMemory (ReadsSound T is_absorbing file sets h) r
  lines_sound a r p q = then_given (ReadsLines T file sets h) (SoundOnly is_absorbing) a r p q

  pub lines_refused : (reason : Reason) → OrMemory (ReadsLines T file sets h) (Err reason) → OrMemory (ReadsSound T is_absorbing file sets h) (Err reason)
  lines_refused reason p = then_refused (ReadsLines T file sets h) (SoundOnly is_absorbing) reason p

  sound_given : (a : Labelled V) → ReadsSound T is_absorbing file sets h (Ok a) → ¬ HasRefusedCircuit is_absorbing a
  sound_given a (inl p) = absurd (no_given a p.0 p.2)
  sound_given a (inr (b, k, inl p)) = absurd (no_given a empty_circuit p.1)
  sound_given a (inr (b, k, inr p)) = subst (λ (x : Labelled V). ¬ HasRefusedCircuit is_absorbing x) (sym (same_given a b p.1)) p.0

text_sound : (file bytes : Bytes) (x : Input) → ReadsText file bytes (Ok x) → IsSoundInput x
text_sound file bytes x (inl p) = absurd (no_given x _ p.1)
text_sound file bytes x (inr (f, h, inl p)) = absurd (no_given x p.0 p.2)
text_sound file bytes x (inr (f, h, inr (a, k, e))) =
    subst IsSoundInput (sym (same_given x (record { weights = f.weights; of = a }) e)) (sound_given (texts_of f.weights) (absorbs f.weights) file f.sets f.head a k)

-- no circuit of a file that was read is refused
pub file_sound : (seen : Seen) (file : Bytes) (x : Input) → OrMemory (ReadsFile seen file) (Ok x) → IsSoundInput x
file_sound seen file x (inl e) = absurd (no_given x no_memory e)
file_sound seen file x (inr (inl p)) = absurd (no_given x p.0 p.2)
file_sound seen file x (inr (inr (bytes, k, p))) = text_sound file bytes x p
