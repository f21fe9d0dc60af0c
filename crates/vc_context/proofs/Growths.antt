-- Tapes that are written one after another.
use Rattle.std.proofs.Common.{◌≡◌, ℕ, ◌+◌, ◌<◌, List, ◌∷◌, ◌++◌, length, drop, Some, ap, sym, ◌∙◌, append_assoc}
use Rattle.std.specs.List.{flat_map}
use Rattle.std.specs.Prelude.{codes, slice_get}
use Rattle.std.proofs.lemmas.List.{drop_more}
use Rattle.std.proofs.lemmas.Option.{slice_get_within, get_or_from_slice_get}
use Rattle.vc_context.specs.Canonical.{comma_text}
use Rattle.vc_label.specs.declared.tape_set.TapeSet.{TapeSet}

-- a text that grew by one more, where what is to come is known
grown : (s t first rest all : List ℕ) → t ≡ s ++ first → s ++ (first ++ rest) ≡ all → t ++ rest ≡ all
grown s t first rest all added before = ap (λ u. u ++ rest) added ∙ append_assoc s first rest ∙ before

-- the tape at a place, and those behind it
drop_here : (sets : List TapeSet) (i : ℕ) (set : TapeSet) → slice_get sets i ≡ Some set → drop i sets ≡ set ∷ drop (i + 1) sets
drop_here sets i set e =
    let within : i < length sets = slice_get_within sets i set e in
    drop_more sets i set within ∙ ap (λ s. s ∷ drop (i + 1) sets) (get_or_from_slice_get sets i set set e)

pub tapes_next : (sets : List TapeSet) (i : ℕ) (set : TapeSet) (s t all : List ℕ) → slice_get sets i ≡ Some set → t ≡ s ++ comma_text set
    → s ++ (flat_map comma_text (drop i sets) ++ codes ">") ≡ all → t ++ (flat_map comma_text (drop (i + 1) sets) ++ codes ">") ≡ all
tapes_next sets i set s t all here added before =
    let rest : List ℕ = flat_map comma_text (drop (i + 1) sets) in
    let same : flat_map comma_text (drop i sets) ≡ comma_text set ++ rest = ap (flat_map comma_text) (drop_here sets i set here) in
    grown s t (comma_text set) (rest ++ codes ">") all added
    (ap (λ u. s ++ u) (sym (append_assoc (comma_text set) rest (codes ">"))) ∙ ap (λ u. s ++ (u ++ codes ">")) (sym same) ∙ before)
