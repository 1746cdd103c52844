-- What the program may answer, and what it leaves on its outputs.
use Rattle.std.specs.Prelude.{◌≡◌, ℕ, ◌<◌, ◌≤◌, List, ◌++◌, length, Option, Some, None}
use Rattle.weave_base.specs.declared.status.Status.{Status}
use Rattle.weave_base.specs.declared.status.Status.TheVariants as status
use Rattle.weave_base.specs.Causes.{Rose}
use Rattle.weave_base.specs.Contents.{File, bytes_of}
use Rattle.c_words.specs.declared.word.Mode.TheVariants as mode
use Rattle.c_parser.specs.FirstForm.Program.{Program}
use Rattle.c_parser.specs.FirstForm.Texts.{IsTextOf}
use Rattle.weave_cli.specs.FirstForm.Task.{IsWeavingOf}
use Rattle.weave_cli.specs.FirstForm.Weaving.{woven}
use Rattle.weave_cli.specs.FirstForm.Layout.{program_text}
use Rattle.weave_cli.specs.Commands.{weave_file, usage_line, refusal_line, no_place}

-- a sink before and after a call: what it holds, where it tells it, and its count of faults
pub record Output : Type 0 where
  pub before : Option (List ℕ)
  pub after : Option (List ℕ)
  pub faults_before : ℕ
  pub faults_after : ℕ

abbrev pub IsSame : Output → Type 0
IsSame o = o.after ≡ o.before

-- the text was added
abbrev pub Gains : Output → List ℕ → Type 0
Gains o text = (bytes : List ℕ) → o.before ≡ Some bytes → o.after ≡ Some (bytes ++ text)

-- a prefix of the text was added
abbrev pub GainsPrefix : Output → List ℕ → Type 0
GainsPrefix o text = (bytes : List ℕ) → o.before ≡ Some bytes → (some others : List ℕ) × (text ≡ some ++ others) × (o.after ≡ Some (bytes ++ some))

-- a write failed in the call
abbrev pub HasFailed : Output → Type 0
HasFailed o = Rose o.faults_before o.faults_after

-- the files before and after a call: what they hold, where it is told, their count of faults, and the last failed name after it
pub record Input : Type 0 where
  pub contents : Option (List File)
  pub faults_before : ℕ
  pub faults_after : ℕ
  pub last_failed : Option (List ℕ)

-- the text is that of the file, where the files tell what they hold
abbrev pub IsTextOfFile : Input → List ℕ → List ℕ → Type 0
IsTextOfFile i file text = (files : List File) → i.contents ≡ Some files → bytes_of files file ≡ Some text

-- a load of the file failed in the call
abbrev pub HasFailedToLoad : Input → List ℕ → Type 0
HasFailedToLoad i file = Rose i.faults_before i.faults_after × (i.last_failed ≡ Some file)

abbrev pub IsFirstProgram : List ℕ → Type 0
IsFirstProgram text = (p : Program) × IsTextOf mode.Source text p

-- the text of the program that weaving makes of the source
pub record IsWovenText (source text : List ℕ) : Type 0 where
  pub program : Program
  pub spelled : IsTextOf mode.Source source program
  pub laid_out : text ≡ program_text (woven program)

-- the first broken rule of a source: it is too long, or else it isn't of the first form
pub data Breaks : List ℕ → ℕ → Type 0 where
  too_long : {text : List ℕ} → 262144 < length text → Breaks text 100
  other_form : {text : List ℕ} → length text ≤ 262144 → (IsFirstProgram text → ⊥) → Breaks text 190

-- What comes of a line that is due on a sink, with the status that is due with it: a failed write and want of memory have statuses of their own.
pub data Told (line : List ℕ) (due : Status) (o : Output) : Status → Type 0 where
  told : Gains o line → Told line due o due
  untold : HasFailed o → GainsPrefix o line → Told line due o status.WriteFault
  no_memory : IsSame o → Told line due o status.NoMemory

-- What the program answers to its words, of which `weave FILE` is the one command, and what it leaves on its outputs.
-- Want of memory may be answered to all words, and has written nothing.
pub data Answers (words : List (List ℕ)) (files : Input) (out err : Output) : Status → Type 0 where
  -- the words are no command
  usage : {s : Status} → weave_file words ≡ None → IsSame out → Told usage_line status.Words err s → Answers words files out err s
  -- the file couldn't be loaded
  unread : (file : List ℕ) → weave_file words ≡ Some file → HasFailedToLoad files file → IsSame out → IsSame err → Answers words files out err status.ReadFault
  -- the file breaks a rule
  refusal : {s : Status} (file text : List ℕ) (code : ℕ) → weave_file words ≡ Some file → IsTextOfFile files file text → Breaks text code
      → IsSame out → Told (refusal_line code file no_place) status.Refused err s → Answers words files out err s
  -- the file is of the first form: the output gains a text of the woven first form whose core simulates the file's program and judges its property
  woven_text : {s : Status} (file text written : List ℕ) → weave_file words ≡ Some file → IsTextOfFile files file text → length text ≤ 262144 → IsWeavingOf text written
      → IsSame err → Told written status.Done out s → Answers words files out err s
  memory : IsSame out → IsSame err → Answers words files out err status.NoMemory
