-- What is told of a file that can't be used.
use Rattle.std.specs.Prelude.{◌≡◌}
use Rattle.std.specs.declared.io.ErrorKind.{ErrorKind}
use Rattle.std.specs.declared.io.ErrorKind.TheVariants.{NotFound, PermissionDenied}
use Rattle.sqlite.specs.declared.error.Error.{Error}
use Rattle.sqlite.specs.declared.error.Error.TheVariants.{SqliteFailure}
use Rattle.sqlite.specs.declared.error.ErrorCode.TheVariants.{DatabaseBusy, DatabaseCorrupt, NotADatabase}
use Rattle.tb_causes.specs.Told.{Text}
use Rattle.tb_causes.specs.declared.file_cause.FileCause.{FileCause}
use Rattle.tb_causes.specs.declared.file_cause.FileCause.TheVariants.{Closed, Folder, Linked, Log, Unseen, Unusable, Usable}
use Rattle.tb_wal.specs.declared.beside.LogFault.{LogFault}
use Rattle.tb_wal.specs.declared.beside.LogFault.TheVariants.{Damaged, Foreign, Left}
use Rattle.tb_causes.specs.declared.file_cause.TheConstants.{BUSY, DAMAGED, FAILED_LATER, FOLDER, LINKED, LOG_DAMAGED, LOG_FOREIGN, LOG_LEFT, LOOK_FAILED, NO_ACCESS, NO_DATABASE, NO_FILE, NO_LOG, NO_LOOK, OPEN_FAILED}

-- of one that isn't opened with its log
abbrev pub log_text : LogFault → Text
log_text Left = LOG_LEFT.now
log_text Damaged = LOG_DAMAGED.now
log_text Foreign = LOG_FOREIGN.now

-- of one that can't be looked at
abbrev pub look_text : ErrorKind → Text
look_text NotFound = NO_FILE.now
look_text PermissionDenied = NO_LOOK.now
look_text _ = LOOK_FAILED.now

-- of one that can't be read and written
abbrev pub access_text : ErrorKind → Text
access_text PermissionDenied = NO_ACCESS.now
access_text _ = OPEN_FAILED.now

-- of one that is no database that can be used
abbrev pub opening_text : Error → Text
opening_text (SqliteFailure DatabaseBusy) = BUSY.now
opening_text (SqliteFailure NotADatabase) = NO_DATABASE.now
opening_text (SqliteFailure DatabaseCorrupt) = DAMAGED.now
opening_text _ = NO_LOG.now

abbrev pub file_text : FileCause → Text
file_text (Log fault) = log_text fault
file_text (Unseen kind) = look_text kind
file_text Folder = FOLDER.now
file_text Linked = LINKED.now
file_text (Closed kind) = access_text kind
file_text (Unusable error) = opening_text error
file_text Usable = FAILED_LATER.now

-- of what a file is when it is looked at, which the machine says
abbrev pub IsFileText : Text → Type 0
IsFileText text = (cause : FileCause) × (text ≡ file_text cause)
