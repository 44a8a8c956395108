-- What is told of a fault.
use Rattle.std.specs.Prelude.{◌≡◌, ◌⊎◌, ℕ, nat_lt, List, [], ◌∷◌, Option, Some, None, if◌then◌else◌}
use Rattle.tb_causes.specs.BadText.{IsBodyText, IsPartText}
use Rattle.tb_causes.specs.FileCause.{IsFileText}
use Rattle.tb_causes.specs.Told.{Text}
use Rattle.tb_causes.specs.Unanswered.{IsUnanswered, IsUnprinted}
use Rattle.tb_causes.specs.WrongWord.{wrong_text}
use Rattle.tb_causes.specs.declared.cause.TheConstants.{BAD, BAD_BODY, BAD_EXPORT, BAD_SEND, KEY_FILES, KEY_UNREAD, KEY_UNTOLD, LOW_PORT, MEMORY, NOT_EMPTY, NOT_OURS, NO_ANSWER, NO_CLOCK, NO_KEY, NO_KEY_FILE, NO_LISTEN, NO_NEW_KEY, NO_PAGE, READ_FAILED, STORE, TAKEN_PORT, WRITE_FAILED, WRONG_VERSION}
use Rattle.tb_client.specs.OwnKey.{is_own_key_alone}
use Rattle.tb_command_line.specs.declared.order.Order.{Order}
use Rattle.tb_command_line.specs.declared.order.Order.TheVariants as order
use Rattle.tb_orders.specs.declared.order_fault.BadItem.{BadItem}
use Rattle.tb_program.specs.declared.fault.Fault.{Fault}
use Rattle.tb_program.specs.declared.fault.Fault.TheVariants as fault

-- of a fault, whatever the order was
abbrev pub text_of : Fault → Text
text_of fault.Bad = BAD.now
text_of fault.BadBody = BAD_BODY.now
text_of fault.Memory = MEMORY.now
text_of fault.NoAnswer = NO_ANSWER.now
text_of fault.NoClock = NO_CLOCK.now
text_of fault.NoKey = NO_KEY.now
text_of fault.NoListen = NO_LISTEN.now
text_of fault.NoPage = NO_PAGE.now
text_of fault.NotEmpty = NOT_EMPTY.now
text_of fault.NotOurs = NOT_OURS.now
text_of fault.ReadFailed = READ_FAILED.now
text_of fault.Store = STORE.now
text_of fault.WriteFailed = WRITE_FAILED.now
text_of fault.WrongVersion = WRONG_VERSION.now

-- ---- by the order

-- of words that are an order, but ask for nothing
abbrev pub send_text : Order → Text
send_text (order.Send sent) = BAD_SEND.now
send_text _ = BAD.now

-- of a port: those below 1024 are the system's
abbrev pub port_text : ℕ → Text
port_text port = if nat_lt port 1024 then LOW_PORT.now else TAKEN_PORT.now

abbrev pub ports_text : Order → Text
ports_text (order.Serve served) = port_text served.port
ports_text _ = NO_LISTEN.now

-- the file that an order is over
abbrev pub file_of : Order → Option Text
file_of (order.Init made) = Some made.file
file_of (order.Serve served) = Some served.file
file_of order.Run = None
file_of (order.Import taken) = Some taken.file
file_of (order.ImportAll taken) = Some taken.file
file_of (order.Clean taken) = Some taken.import.file
file_of (order.View shown) = Some shown.file
file_of (order.Check file) = Some file
file_of (order.Key given) = Some given.file
file_of (order.Send sent) = None
file_of (order.My asked) = None
file_of (order.Help topic) = None
file_of order.Version = None

-- of files that no order names: those of a key
abbrev pub store_text : Order → Text
store_text (order.Send sent) = KEY_FILES.now
store_text (order.My asked) = KEY_FILES.now
store_text _ = STORE.now

-- of a file that is looked at again
abbrev pub IsCauseOfStore : Option Text → Order → Text → Type 0
IsCauseOfStore None order text = text ≡ store_text order
IsCauseOfStore (Some file) order text = IsFileText text

-- of a key that isn't where it is to be: one that is to change stands in a file, and a new one is on standard input
abbrev pub key_text : Order → Text
key_text (order.Send sent) = if is_own_key_alone sent.words then NO_KEY_FILE.now else NO_KEY.now
key_text (order.Key given) = NO_NEW_KEY.now
key_text _ = NO_KEY.now

-- of what couldn't be printed: a key that was made is lost then, and one that was read is known
abbrev pub written_text : Order → Text
written_text (order.Key given) = if given.is_read then KEY_UNTOLD.now else KEY_UNREAD.now
written_text _ = WRITE_FAILED.now

abbrev pub IsCauseOfSilence : Order → Text → Type 0
IsCauseOfSilence (order.Send sent) text = IsUnanswered sent text
IsCauseOfSilence _ text = text ≡ NO_ANSWER.now

abbrev pub IsCauseOfUnwritten : Order → Text → Type 0
IsCauseOfUnwritten (order.Send sent) text = IsUnprinted sent text
IsCauseOfUnwritten other text = text ≡ written_text other

abbrev pub IsCauseOfText : Option BadItem → Order → Text → Type 0
IsCauseOfText item (order.Import taken) text = IsBodyText item text
IsCauseOfText item (order.ImportAll taken) text = IsPartText item text
IsCauseOfText item (order.Clean taken) text = text ≡ BAD_EXPORT.now
IsCauseOfText item _ text = text ≡ BAD_BODY.now

-- of a fault of an order, and the task at fault where a text is bad
abbrev pub IsCause : Fault → Option BadItem → Order → Text → Type 0
IsCause fault.Store item order text = IsCauseOfStore (file_of order) order text
IsCause fault.NoAnswer item order text = IsCauseOfSilence order text
IsCause fault.BadBody item order text = IsCauseOfText item order text
IsCause fault.NoListen item order text = text ≡ ports_text order
IsCause fault.NoKey item order text = text ≡ key_text order
IsCause fault.Bad item order text = text ≡ send_text order
IsCause fault.WriteFailed item order text = IsCauseOfUnwritten order text
IsCause other item order text = text ≡ text_of other

-- ---- of words that are no order

-- of the words behind the program's name: where there are none, the help
abbrev pub words_text : List Text → Text → Text
words_text [] help = help
words_text (word ∷ words) help = wrong_text (word ∷ words)

-- of the words, which the machine tells; that they are bad where it doesn't
abbrev pub IsCauseOfBadWords : Text → Text → Type 0
IsCauseOfBadWords help text =
    ((words : List Text) × (text ≡ words_text words help)) ⊎ (text ≡ BAD.now)

abbrev pub IsCauseOfWords : Fault → Text → Text → Type 0
IsCauseOfWords fault.Bad help text = IsCauseOfBadWords help text
IsCauseOfWords other help text = text ≡ text_of other
