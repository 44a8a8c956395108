-- What each order comes to, and which faults come of it.
use Rattle.std.specs.Prelude.{◌≡◌, ℕ, Bool, true, false, List, Option, Some, IfSome, Ok}
use Rattle.std.specs.Io.KnownBytes.{Appends}
use Rattle.sqlite.specs.Held.{Held}
use Rattle.sqlite_disk.specs.declared.Disk.{Ghosts as DiskGhosts}
use Rattle.sqlite_store.specs.declared.store.FileStore.{FileStore}
use Rattle.sqlite_wal.specs.Recovery.{Image}
use Rattle.taskboard.specs.Serve.{IsServerRun, asks_machine, is_of_serving}
use Rattle.taskboard.specs.declared.TheConstants.{VERSION}
use Rattle.tb_calls.specs.Call.{opening}
use Rattle.tb_calls.specs.declared.keep.Keep.{Ghosts}
use Rattle.tb_caller.specs.Ending.{ending_if}
use Rattle.tb_caller.specs.Faults.{is_of_mine}
use Rattle.tb_caller.specs.Mine.{IsMine}
use Rattle.tb_caller.specs.Sent.{IsSentOver}
use Rattle.tb_client.specs.Asking.{Event}
use Rattle.tb_command_line.specs.Help.{help_text}
use Rattle.tb_cleaning.specs.Cleaning.{Cleans}
use Rattle.tb_cleaning.specs.declared.cleaning.Cleaned.{Cleaned}
use Rattle.tb_command_line.specs.declared.order.CleanMode.{CleanMode}
use Rattle.tb_command_line.specs.declared.order.CleanMode.TheVariants as mode
use Rattle.tb_command_line.specs.declared.order.CleanOrder.{CleanOrder}
use Rattle.tb_command_line.specs.declared.order.ImportOrder.{ImportOrder}
use Rattle.tb_command_line.specs.declared.order.Order.{Order}
use Rattle.tb_command_line.specs.declared.order.Order.TheVariants.{Init, Serve, Run, Import, ImportAll, Clean, View, Check, Key, Send, My, Help, Version}
use Rattle.tb_files.specs.Check.{IsChecked}
use Rattle.tb_files.specs.File.{BeginsSession, IsFoundIn}
use Rattle.tb_files.specs.Faults.{is_of_checking, is_of_imports, is_of_keys, is_of_views}
use Rattle.tb_files.specs.Import.{IsImported, IsImportedInParts}
use Rattle.tb_files.specs.Init.{IsMade}
use Rattle.tb_files.specs.Key.{IsKeyGiven}
use Rattle.tb_files.specs.View.{IsShown}
use Rattle.tb_keeper.specs.declared.sql_keep.SqlKeep.{SqlKeep}
use Rattle.tb_orders.specs.Faults.{is_of_making, is_of_scripts}
use Rattle.tb_orders.specs.declared.ending.Ending.{Ending}
use Rattle.tb_orders.specs.declared.ending.Ending.TheVariants.{Accepted, Refused}
use Rattle.tb_program.specs.declared.fault.Fault.{Fault}
use Rattle.tb_program.specs.declared.fault.Fault.TheVariants.{WriteFailed}
use Rattle.tb_script.specs.Answering.{answer, first_state}
use Rattle.tb_script.specs.Lines.{answers_from}
use Rattle.tb_sending.specs.Faults.{is_of_sending}
use Rattle.tb_sending.specs.declared.server_line.ServerLine.{ServerLine}

-- the answers to the lines of a script
abbrev pub script_text : List ℕ → List ℕ
script_text script = answers_from answer first_state script

-- of what the program tells of itself
abbrev pub is_of_telling : Fault → Bool
is_of_telling WriteFailed = true
is_of_telling _ = false

abbrev pub is_of_order : Order → Fault → Bool
is_of_order (Init order) fault = is_of_making fault
is_of_order (Serve order) fault = is_of_serving fault
is_of_order Run fault = is_of_scripts fault
is_of_order (Import order) fault = is_of_imports fault
is_of_order (ImportAll order) fault = is_of_imports fault
is_of_order (Clean order) fault = is_of_imports fault
is_of_order (View order) fault = is_of_views fault
is_of_order (Check file) fault = is_of_checking fault
is_of_order (Key order) fault = is_of_keys fault
is_of_order (Send order) fault = is_of_sending fault
is_of_order (My order) fault = is_of_mine fault
is_of_order (Help topic) fault = is_of_telling fault
is_of_order Version fault = is_of_telling fault

-- ---- how an order ends that meets no fault

-- the order as it is carried out: a call that is sent has an identifier by then, where the machine gave one
abbrev pub IsNamed : Order → Order → Type 0
IsNamed (Send order) named = (id : Option ℕ) × (named ≡ Send (record order { id = id }))
IsNamed order named = named ≡ order

abbrev pub is_skip : CleanMode → Bool
is_skip mode.Check = false
is_skip mode.Clean = false
is_skip mode.Skip = true

-- what is printed, if that alone is to be known
abbrev pub IsTold : Option (List ℕ) → Option (List ℕ) → Ending → List ℕ → Type 0
IsTold before after ending text = (ending ≡ Accepted) × Appends before after text

module _ {D W : Type 0} {d : DiskGhosts D} (g : Ghosts (SqlKeep (FileStore D d)))
    (start : Image) (contents : W → Option (List ℕ)) where
  -- an input that is cleaned, by one call or in parts
  abbrev pub IsBrought : Bool → ImportOrder → List ℕ → W → W → Ending → Type 0
  IsBrought true order text before after ending =
      IsImportedInParts g start (λ at. Unit {0}) order (Some text) (contents before) (contents after) ending
  IsBrought false order text before after ending =
      IsImported g start (λ at. Unit {0}) order (Some text) (contents before) (contents after) ending

  -- Nothing is brought where it is only looked at, or where a task can't be taken and isn't to be left out: the order is refused then.
  abbrev pub IsCleanedBy : CleanMode → Bool → ImportOrder → Cleaned → W → W → Ending → Type 0
  IsCleanedBy mode.Check is_all order cleaned before after ending =
      (ending ≡ ending_if cleaned.is_whole)
      × Appends (contents before) (contents after) cleaned.notes
  IsCleanedBy mode.Clean is_all order cleaned before after ending = of_whole cleaned.is_whole
    where
      of_whole : Bool → Type 0
      of_whole true = IsBrought is_all order cleaned.text before after ending
      of_whole false = (ending ≡ Refused) × (after ≡ before)
  IsCleanedBy mode.Skip is_all order cleaned before after ending =
      IsBrought is_all order cleaned.text before after ending

  -- the cleaned text of an input is brought in place of it
  pub record IsCleaned (order : CleanOrder) (input : Option (List ℕ)) (before after : W)
      (ending : Ending) : Type 0 where
    pub text : List ℕ
    pub whole : IfSome input (λ all. text ≡ all)
    pub cleaned : Cleaned
    pub cleans : Cleans (is_skip order.mode) text (Ok cleaned)
    pub brings : IsCleanedBy order.mode order.is_all order.import cleaned before after ending

module _ {D M G W : Type 0} {d : DiskGhosts D} (g : Ghosts (SqlKeep (FileStore D d)))
    (start : Image) (follows : List Event → ServerLine M → ServerLine M → Type 0)
    (gives : Option (List ℕ) → G → G → Type 0) (contents : W → Option (List ℕ)) where
  -- With an input, and a writer before and after it. The file and its log held these bytes. Which moments the machine's clock gives isn't known.
  abbrev pub IsDone : Order → Option (List ℕ) → W → W → Ending → Type 0
  IsDone (Init order) input before after ending =
      (found : Held (FileStore D d)) × IsFoundIn start found × ((ending ≡ Accepted)
      × IsMade g found (opening order.name order.key))
  IsDone (Serve order) input before after ending = (ending ≡ Accepted)
      × BeginsSession g start (IsServerRun g asks_machine order)
  IsDone Run input before after ending = (ending ≡ Accepted)
      × IfSome input (λ script. Appends (contents before) (contents after) (script_text script))
  IsDone (Import order) input before after ending =
      IsImported g start (λ at. Unit {0}) order input (contents before) (contents after) ending
  IsDone (ImportAll order) input before after ending =
      IsImportedInParts g start (λ at. Unit {0}) order input (contents before) (contents after) ending
  IsDone (Clean order) input before after ending =
      IsCleaned g start contents order input before after ending
  IsDone (View order) input before after ending =
      BeginsSession g start
      (λ old. IsShown g (λ at. Unit {0}) order old (contents before) (contents after) ending)
  IsDone (Check file) input before after ending =
      BeginsSession g start
      (λ old. IsChecked old (contents before) (contents after) ending)
  IsDone (Key order) input before after ending =
      IsKeyGiven g start (λ at. Unit {0}) order input (contents before) (contents after) ending
  IsDone (Send order) input before after ending =
      IsSentOver follows contents order before after ending
  IsDone (My order) input before after ending =
      IsMine follows gives order.words input (contents before) (contents after) ending
  IsDone (Help topic) input before after ending =
      IsTold (contents before) (contents after) ending (help_text topic)
  IsDone Version input before after ending =
      IsTold (contents before) (contents after) ending VERSION.now
