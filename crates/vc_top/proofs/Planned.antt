-- What a command answers to what was read is an answer of its request.
use Rattle.std.proofs.Common.{◌≡◌, ℕ, List, [], ◌∷◌, sym, subst, inl, inr}
use Rattle.std.specs.Borrow.{Bor}
use Rattle.vc_files.specs.Files.{Bytes, Grows}
use Rattle.vc_top.specs.Commands.{AnswersFile, AnswersFiles, AnswersTexts, IsPlan}
use Rattle.vc_top.specs.Inputs.{Input, ReadsFile}
use Rattle.vc_top.specs.Outcomes.{Answer, Outcome, OrMemory, Then}
use Rattle.vc_top.specs.Plans.{Answers, Plan, files_of, of_file, of_files, of_texts, unbuilt}
use Rattle.vc_top.specs.Seen.{Seen}
use Rattle.vc_top.specs.declared.plan.FileCommand.{FileCommand}
use Rattle.vc_top.specs.declared.plan.FilesCommand.{FilesCommand}
use Rattle.vc_top.specs.declared.plan.Plan.TheVariants.{Texts, File, Files}
use Rattle.vc_top.specs.declared.plan.TextCommand.{TextCommand}
use Rattle.vc_top.proofs.Outcomes.{wider}

pub texts_answered : (s : Seen) (plan : Plan) (command : TextCommand) → IsPlan (Texts command) plan → (a : Answer) → OrMemory (AnswersTexts command) a → OrMemory (Answers plan s) a
texts_answered s unbuilt command h a p = wider (AnswersTexts command) (Answers unbuilt s) a a (λ m. m) p (h a)
texts_answered s (of_texts texts) command h a p = wider (AnswersTexts command) texts a a (λ m. m) p (h a)
texts_answered s (of_file file rest) command h a p = absurd h
texts_answered s (of_files first second rest) command h a p = absurd h

module _ (file : Bor (List ℕ)) (command : FileCommand) where
  pub file_answered : (s : Seen) (plan : Plan) → IsPlan (File file command) plan → (a : Answer) → OrMemory (Then (ReadsFile s file.now) (AnswersFile command)) a → OrMemory (Answers plan s) a
  file_answered s unbuilt h a p = absurd h
  file_answered s (of_texts texts) h a p = absurd h
  file_answered s (of_file name rest) h a p = wider (Then (ReadsFile s file.now) (AnswersFile command)) (Then (ReadsFile s name) rest) a a (λ m. m) p (λ q. at (sym h.0) (go q))
    where
      go : Then (ReadsFile s file.now) (AnswersFile command) a → Then (ReadsFile s file.now) rest a
      go (inl q) = inl q
      go (inr q) = inr (q.0, q.1, h.1 q.0 a q.2)

      at : {name : Bytes} → file.now ≡ name → Then (ReadsFile s file.now) rest a → Then (ReadsFile s name) rest a
      at e q = subst (λ n. Then (ReadsFile s n) rest a) e q
  file_answered s (of_files first second rest) h a p = absurd h

  -- the faults are those of the plan's files
  pub file_grows : (plan : Plan) → IsPlan (File file command) plan → (old new : List Bytes) → Grows (file.now ∷ []) old new → Grows (files_of plan) old new
  file_grows unbuilt h old new g = absurd h
  file_grows (of_texts texts) h old new g = absurd h
  file_grows (of_file name rest) h old new g = subst (λ n. Grows (n ∷ []) old new) (sym h.0) g
  file_grows (of_files first second rest) h old new g = absurd h

module _ (first second : Bor (List ℕ)) (command : FilesCommand) where
  abbrev Reads : Seen → Bytes → Bytes → (Input → Input → Outcome Bytes) → Outcome Bytes
  Reads s a b rest = Then (ReadsFile s a) (λ x. Then (ReadsFile s b) (rest x))

  pub files_answered : (s : Seen) (plan : Plan) → IsPlan (Files first second command) plan → (a : Answer) → OrMemory (Reads s first.now second.now (AnswersFiles command)) a → OrMemory (Answers plan s) a
  files_answered s unbuilt h a p = absurd h
  files_answered s (of_texts texts) h a p = absurd h
  files_answered s (of_file name rest) h a p = absurd h
  files_answered s (of_files one other rest) h a p = wider (Reads s first.now second.now (AnswersFiles command)) (Reads s one other rest) a a (λ m. m) p (λ q. at (sym h.0) (sym h.1) (go q))
    where
      go : Reads s first.now second.now (AnswersFiles command) a → Reads s first.now second.now rest a
      go (inl q) = inl q
      go (inr (x, r, inl q)) = inr (x, r, inl q)
      go (inr (x, r, inr q)) = inr (x, r, inr (q.0, q.1, h.2 x q.0 a q.2))

      at : {m n : Bytes} → first.now ≡ m → second.now ≡ n → Reads s first.now second.now rest a → Reads s m n rest a
      at {m} {n} e f q = subst (λ y. Reads s m y rest a) f (subst (λ y. Reads s y second.now rest a) e q)

  pub files_grow : (plan : Plan) → IsPlan (Files first second command) plan → (old new : List Bytes) → Grows (first.now ∷ second.now ∷ []) old new → Grows (files_of plan) old new
  files_grow unbuilt h old new g = absurd h
  files_grow (of_texts texts) h old new g = absurd h
  files_grow (of_file name rest) h old new g = absurd h
  files_grow (of_files one other rest) h old new g = subst (λ n. Grows (one ∷ n ∷ []) old new) (sym h.1) (subst (λ n. Grows (n ∷ second.now ∷ []) old new) (sym h.0) g)
