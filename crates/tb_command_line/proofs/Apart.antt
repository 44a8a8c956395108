-- Words for `clap` ask for no help, and for no sending.
use Rattle.std.proofs.Common.{◌≡◌, ◌∙◌, ◌==◌, Bool, true, false, not, ◌&&◌, true≢false, List, [], ◌∷◌, codes, Some, None, refl, ap, sym}
use Rattle.std.specs.List.{list_all}
use Rattle.std.specs.Str.{bytes_eq}
use Rattle.std.proofs.lemmas.Bool.{and_parts}
use Rattle.std.proofs.lemmas.Slice.Eq.{bytes_eq-Decides}
use Rattle.tb_command_line.specs.declared.order.Order.{Order}
use Rattle.tb_command_line.specs.Extra.{without_burst, without_extra, without_growth, without_mode, without_option, without_page, without_server}
use Rattle.tb_command_line.specs.declared.order.ViewKind.TheVariants as view
use Rattle.tb_command_line.specs.Order.{Request, Text, Init, Serve, Run, Import, View, Check, Key, is_plain, texts_of, words_of}
use Rattle.tb_command_line.specs.Sending.{told_of}

not_byte : (b : Bool) → not b ≡ true → b ≡ false
not_byte true e = sym e
not_byte false e = refl

one_no_help : (hyphen : Bool) → hyphen && false ≡ false
one_no_help true = refl
one_no_help false = refl

-- a plain word isn't `--help`
no_help : (word : Text) → is_plain word ≡ true → bytes_eq word (codes "--help") ≡ false
no_help [] plain = refl
no_help (b ∷ []) plain = one_no_help (b == 45)
no_help (b ∷ c ∷ bs) plain = rw (not_byte (b == 45) plain) refl

pub not_told : (request : Request) → list_all is_plain (texts_of request) ≡ true → told_of (words_of request) ≡ None
unfolding told_of
not_told (Init file name key) plain = refl
not_told (Serve file port count is_forever log) plain = refl
not_told Run plain = refl
not_told (Import file member key id board kind is_all) plain = refl
not_told (View kind file member key board) plain = refl
not_told (Check file) plain = rw (no_help file (and_parts (is_plain file) true plain).0) refl
not_told (Key file name None) plain = refl
not_told (Key file name (Some word)) plain = refl

abbrev is_send : List Text → Bool
is_send [] = false
is_send (word ∷ rest) = bytes_eq word (codes "send")

listed : (request : Request) → is_send (words_of request) ≡ false
listed (Init file name key) = refl
listed (Serve file port count is_forever log) = refl
listed Run = refl
listed (Import file member key id board kind is_all) = refl
listed (View view.Export file member key board) = refl
listed (View view.Listing file member key board) = refl
listed (View view.Todo file member key board) = refl
listed (Check file) = refl
listed (Key file name None) = refl
listed (Key file name (Some word)) = refl

pub not_sent : (request : Request) (rest : List Text) → words_of request ≡ codes "send" ∷ rest → ⊥
not_sent request rest e = true≢false (sym (ap is_send e) ∙ listed request)

-- ---- with the options that may stand anywhere

-- one word, and two of which the first is no option, are without it as they are
alone : (option word : Text) (b : Bool) → bytes_eq word (codes "serve") ≡ b → without_option option (word ∷ []) ≡ word ∷ []
alone option word false s = rw s refl
alone option word true s = rw s refl

pair_alone : (option name word : Text) (b : Bool) → bytes_eq name (codes "serve") ≡ b → bytes_eq (codes "serve") option ≡ false
    → without_option option (name ∷ word ∷ []) ≡ name ∷ word ∷ []
pair_alone option name word false s other = rw s refl
pair_alone option name word true s other =
    let is : name ≡ codes "serve" = (bytes_eq-Decides name (codes "serve")).0 s in
    rw (is, other) refl

as_it_is : (option : Text) (words : List Text) (order : Order) → told_of words ≡ Some order → bytes_eq (codes "serve") option ≡ false
    → without_option option words ≡ words
unfolding told_of
as_it_is option [] order told other = refl
as_it_is option (word ∷ []) order told other = alone option word (bytes_eq word (codes "serve")) refl
as_it_is option (name ∷ word ∷ []) order told other = pair_alone option name word (bytes_eq name (codes "serve")) refl other
as_it_is option (name ∷ word ∷ next ∷ rest) order told other = let none : None ≡ Some order = told in absurd (cc)

lone_mode : (word : Text) (b : Bool) → bytes_eq word (codes "import") ≡ b → without_mode (word ∷ []) ≡ word ∷ []
lone_mode word false s = rw s refl
lone_mode word true s = rw s refl

pair_mode : (name word : Text) (b : Bool) → bytes_eq name (codes "import") ≡ b → without_mode (name ∷ word ∷ []) ≡ name ∷ word ∷ []
pair_mode name word false s = rw s refl
pair_mode name word true s = rw s refl

mode_as_it_is : (words : List Text) (order : Order) → told_of words ≡ Some order → without_mode words ≡ words
unfolding told_of
mode_as_it_is [] order told = refl
mode_as_it_is (word ∷ []) order told = lone_mode word (bytes_eq word (codes "import")) refl
mode_as_it_is (name ∷ word ∷ []) order told = pair_mode name word (bytes_eq name (codes "import")) refl
mode_as_it_is (name ∷ word ∷ next ∷ rest) order told = let none : None ≡ Some order = told in absurd (cc)

all_as_they_are : (words : List Text) (order : Order) → told_of words ≡ Some order → without_extra words ≡ words
all_as_they_are words order told =
    let page : without_page words ≡ words = as_it_is (codes "--page") words order told refl in
    let growth : without_growth words ≡ words = as_it_is (codes "--growth") words order told refl in
    let burst : without_burst words ≡ words = as_it_is (codes "--burst") words order told refl in
    let mode : without_mode words ≡ words = mode_as_it_is words order told in
    ap without_server mode
    ∙ ap (λ rest. without_burst (without_growth rest)) page ∙ (ap without_burst growth ∙ burst)

-- what is told of the program is no form of the command line, also without these options
pub told_apart : (words : List Text) (order : Order) (request : Request) → told_of words ≡ Some order → without_extra words ≡ words_of request
    → list_all is_plain (texts_of request) ≡ true → ⊥
told_apart words order request told is plain =
    let same : words ≡ words_of request = sym (all_as_they_are words order told) ∙ is in
    let none : None ≡ Some order = sym (not_told request plain) ∙ (ap told_of (sym same) ∙ told) in
    absurd (cc)

-- and neither is a sending
pub sent_apart : (first : Text) (rest : List Text) (request : Request) → bytes_eq first (codes "send") ≡ true → without_extra (first ∷ rest) ≡ words_of request → ⊥
sent_apart first rest request send is =
    let named : first ≡ codes "send" = (bytes_eq-Decides first (codes "send")).0 send in
    not_sent request rest (sym is ∙ rw named refl)
