-- What an answer to a read says of the file and of the faults.
use Rattle.std.specs.Prelude.{◌≡◌, ◌+◌, ◌<◌, ◌≤◌, ◌⊎◌, ℕ, List, [], ◌∷◌, ◌++◌, length, Result, Ok, Err, ⊤}
use Rattle.std.specs.Global.{Vec}
use Rattle.vc_model.specs.Lists.{In}
use Rattle.vc_files.specs.Files.{Bytes, Held, Holds, Lacks}
use Rattle.vc_files.specs.declared.files.ReadFault.{ReadFault}
use Rattle.vc_files.specs.declared.files.ReadFault.TheVariants.{Failed, TooLong, Memory}

-- the answer is Ok, TooLong or Memory
abbrev pub IsUnfailed : Result (Vec ℕ) ReadFault → Type 0
IsUnfailed (Ok bytes) = ⊤
IsUnfailed (Err Failed) = ⊥
IsUnfailed (Err (TooLong taken)) = ⊤
IsUnfailed (Err (Memory e)) = ⊤

-- the answer is Failed or Memory
abbrev pub IsFailedOrMemory : Result (Vec ℕ) ReadFault → Type 0
IsFailedOrMemory (Ok bytes) = ⊥
IsFailedOrMemory (Err Failed) = ⊤
IsFailedOrMemory (Err (TooLong taken)) = ⊥
IsFailedOrMemory (Err (Memory e)) = ⊤

-- the file has these bytes: at most `most` of them come as they are, more are TooLong, and Memory is free
abbrev pub Brings : Bytes → ℕ → Result (Vec ℕ) ReadFault → Type 0
Brings bytes most (Ok got) = (got.items ≡ bytes) × (length bytes ≤ most)
Brings bytes most (Err Failed) = ⊥
Brings bytes most (Err (TooLong taken)) = (taken ≡ most + 1) × (most < length bytes)
Brings bytes most (Err (Memory e)) = ⊤

-- the name stands at the end of the faults after Failed, and any other answer leaves them
abbrev pub Records : Bytes → List Bytes → List Bytes → Result (Vec ℕ) ReadFault → Type 0
Records name before after (Ok bytes) = after ≡ before
Records name before after (Err Failed) = after ≡ before ++ name ∷ []
Records name before after (Err (TooLong taken)) = after ≡ before
Records name before after (Err (Memory e)) = after ≡ before

-- the call of this number fails: it was to fail, or no file has this name
abbrev pub Fails : List ℕ → ℕ → Held → Bytes → Type 0
Fails failing number files name = In number failing ⊎ Lacks files name

-- each answer of the call of this number has its cause
-- the causes exclude each other, so each answer comes exactly where its cause stands, or Memory in its place
abbrev pub HasReadCause : List ℕ → ℕ → Held → Bytes → ℕ → Result (Vec ℕ) ReadFault → Type 0
HasReadCause failing number files name most (Ok got) = (¬ Fails failing number files name) × Holds files name got.items × (length got.items ≤ most)
HasReadCause failing number files name most (Err Failed) = Fails failing number files name
HasReadCause failing number files name most (Err (TooLong taken)) = (¬ Fails failing number files name) × (bytes : Bytes) × Holds files name bytes × Brings bytes most (Err (TooLong taken))
HasReadCause failing number files name most (Err (Memory e)) = ⊤
