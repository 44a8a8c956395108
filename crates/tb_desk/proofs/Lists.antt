-- What the world, the kept replies and the entries stand for after a commit.
use Rattle.std.proofs.Common.{◌≡◌, ℕ, Bool, true, false, true≢false, cond, List, [], ◌∷◌, map, ◌++◌, Option, Some, option_map, option_to_list, Ordering, refl, sym, ap, ◌∙◌, inr}
use Rattle.std.specs.BTreeMap.{insert_entry, is_at}
use Rattle.std.specs.FinMap.{empty, find, insert, from_entries, get-from_entries, get-insert, same_map}
use Rattle.std.specs.Map.{lookup}
use Rattle.std.proofs.lemmas.Cmp.{eq_by_cmp_equiv}
use Rattle.std.specs.Ordering.{eq_by_cmp, is_eq}
use Rattle.std.specs.declared.cmp.Ordering.TheVariants.{Less, Equal, Greater}
use Rattle.tb_board.specs.declared.board.Board.{Board}
use Rattle.tb_board.specs.declared.change.Change.{Change}
use Rattle.tb_board.specs.declared.world.World.{World}
use Rattle.tb_board.specs.Changing.{changed}
use Rattle.tb_board.specs.Tasks.{ids}
use Rattle.tb_board.specs.World.{opening as opening_world}
use Rattle.tb_core.proofs.Opening.{opens}
use Rattle.tb_deeds.specs.declared.deed.Deed.{Deed}
use Rattle.tb_history.specs.declared.page.Which.{Which}
use Rattle.tb_history.specs.Pages.{page_of}
use Rattle.tb_calls.specs.declared.call.Call.{Call}
use Rattle.tb_calls.specs.declared.call.KeptReply.{KeptReply}
use Rattle.tb_desk.specs.contracts.list_keep.KeptUnderOrd.TheImpl as kept_under_ord
use Rattle.tb_desk.specs.declared.entry_list.BoardEntry.{BoardEntry}
use Rattle.tb_desk.specs.declared.list_keep.KeptUnder.{KeptUnder}
use Rattle.tb_calls.specs.declared.reply.Reply.{Reply}
use Rattle.tb_calls.specs.Call.{CallName, State, name_cmp, name_of, opening}
use Rattle.tb_calls.specs.History.{content_in, history_seen}
use Rattle.tb_calls.specs.Keep.{HoldsEither, MayCommit, with_reply}
use Rattle.tb_desk.specs.EntryList.{content_among, entries_in, entry_by, with_entries}
use Rattle.tb_desk.specs.ListKeep.{IsListed, call_name, listed, named}
use Rattle.tb_desk.proofs.Entries.{entries_of_board, noted_more}
use Rattle.tb_calls.proofs.Names.{names_exact, names_total, tied}

-- the order of the keys is that of the names
abbrev pub IsByName : (KeptUnder → KeptUnder → Ordering) → Type 0
IsByName cmp = (a b : KeptUnder) → cmp a b ≡ name_cmp (call_name a) (call_name b)

-- the order in which replies are kept
abbrev pub key_order : KeptUnder → KeptUnder → Ordering
key_order = (kept_under_ord.ghosts).cmp

pub by_name : IsByName key_order
by_name a b = refl

pub lookup_named : (cmp : KeptUnder → KeptUnder → Ordering) (same : IsByName cmp) (n : KeptUnder) (es : List (KeptUnder × KeptReply)) → lookup (is_at (cmp n)) es ≡ find name_cmp (call_name n) (map named es)
lookup_named cmp same n [] = refl
lookup_named cmp same n (e ∷ es) =
    ap (λ o. cond (is_eq o) (Some e.1) (lookup (is_at (cmp n)) es)) (same n e.0)
    ∙ ap (cond (eq_by_cmp name_cmp (call_name n) (call_name e.0)) (Some e.1)) (lookup_named cmp same n es)

twice : {A : Type 0} (b : Bool) (x y z : A) → cond b x z ≡ cond b x (cond b y z)
twice true x y z = refl
twice false x y z = refl

apart : {A : Type 0} (a b : Bool) (x y z : A) → (a ≡ true → b ≡ true → ⊥) → cond a x (cond b y z) ≡ cond b y (cond a x z)
apart true true x y z never = absurd (never refl refl)
apart true false x y z never = refl
apart false b x y z never = refl

-- two names that tie with a third are one
one_name : (q a b : CallName) → eq_by_cmp name_cmp q a ≡ true → eq_by_cmp name_cmp q b ≡ true → a ≡ b
one_name q a b is_a is_b = sym (names_exact q a (tied _ is_a)) ∙ names_exact q b (tied _ is_b)

self_tie : (a b : CallName) → a ≡ b → eq_by_cmp name_cmp a b ≡ true
self_tie a b same = ap (eq_by_cmp name_cmp a) (sym same) ∙ (eq_by_cmp_equiv names_total).refl a

find_inserted : (cmp : KeptUnder → KeptUnder → Ordering) (same : IsByName cmp) (es : List (KeptUnder × KeptReply)) (n : KeptUnder) (v : KeptReply) (q : CallName)
    → find name_cmp q (map named (insert_entry cmp es n v)) ≡ cond (eq_by_cmp name_cmp q (call_name n)) (Some v) (find name_cmp q (map named es))
find_inserted cmp same [] n v q = refl
find_inserted cmp same (e ∷ es) n v q = by (cmp n e.0) refl (find_inserted cmp same es n v q)
  where
    by : (o : Ordering) → cmp n e.0 ≡ o → find name_cmp q (map named (insert_entry cmp es n v)) ≡ cond (eq_by_cmp name_cmp q (call_name n)) (Some v) (find name_cmp q (map named es)) → find name_cmp q (map named (insert_entry cmp (e ∷ es) n v)) ≡ cond (eq_by_cmp name_cmp q (call_name n)) (Some v) (find name_cmp q (map named (e ∷ es)))
    by Less is more = rw is refl
    by Equal is more =
        let one : call_name n ≡ call_name e.0 = names_exact (call_name n) (call_name e.0) (sym (same n e.0) ∙ is) in
        rw is
        (twice (eq_by_cmp name_cmp q (call_name e.0)) (Some v) (Some e.1) (find name_cmp q (map named es))
        ∙ ap (λ m. cond (eq_by_cmp name_cmp q m) (Some v) (cond (eq_by_cmp name_cmp q (call_name e.0)) (Some e.1) (find name_cmp q (map named es)))) (sym one))
    by Greater is more =
        rw is
        (ap (cond (eq_by_cmp name_cmp q (call_name e.0)) (Some e.1)) more
        ∙ sym
        (apart (eq_by_cmp name_cmp q (call_name n)) (eq_by_cmp name_cmp q (call_name e.0)) (Some v) (Some e.1) (find name_cmp q (map named es))
        (λ at_n at_e. absurd
        (true≢false
        (sym (self_tie (call_name n) (call_name e.0) (one_name q (call_name n) (call_name e.0) at_n at_e)) ∙ ap is_eq (sym (same n e.0) ∙ is))))))

kept_inserted : (cmp : KeptUnder → KeptUnder → Ordering) (same : IsByName cmp) (es : List (KeptUnder × KeptReply)) (n : KeptUnder) (v : KeptReply)
    → from_entries {R = name_cmp} (map named (insert_entry cmp es n v)) ≡ insert (from_entries (map named es)) (call_name n) v
kept_inserted cmp same es n v =
    same_map names_total names_exact _ _
    (λ q.
    get-from_entries names_total (map named (insert_entry cmp es n v)) q
    ∙ find_inserted cmp same es n v q
    ∙ ap (cond (eq_by_cmp name_cmp q (call_name n)) (Some v)) (sym (get-from_entries names_total (map named es) q))
    ∙ sym (get-insert names_total (from_entries (map named es)) (call_name n) v q))

module _ (cmp : KeptUnder → KeptUnder → Ordering) (same : IsByName cmp) (w later : World) (es put : List (KeptUnder × KeptReply)) (xs more : List BoardEntry) (n : KeptUnder) (v : KeptReply)
    (new : Option BoardEntry) (changes : List Change) (deed : Option Deed) (c : Call) (r : Reply)
    (made : later ≡ changed w changes) (puts : put ≡ insert_entry cmp es n v) (under : call_name n ≡ name_of c) (is : v ≡ record { content = c.content; reply = r })
    (noting : new ≡ option_map (entry_by c) deed) (last : more ≡ xs ++ option_to_list new) where
  with_kept : with_reply (listed w es xs) changes deed c r ≡ listed later put more
  with_kept =
      let kept =
      sym
      (ap (λ l. from_entries {R = name_cmp} (map named l)) puts
      ∙ kept_inserted cmp same es n v
      ∙ ap (λ m. insert (from_entries {R = name_cmp} (map named es)) m v) under
      ∙ ap (insert (from_entries {R = name_cmp} (map named es)) (name_of c)) is) in
      let history = noted_more empty xs c deed ∙ ap (λ o. with_entries empty (xs ++ option_to_list o)) (sym noting) ∙ ap (with_entries empty) (sym last) in
      λ i. record { world = sym made i; kept = kept i; history = history i }

  pub committed : (s : State) → IsListed w es xs s → MayCommit s changes deed c → IsListed later put more (with_reply s changes deed c r)
  committed s held may = record { good = may.good; is = ap (λ t. with_reply t changes deed c r) held.is ∙ with_kept }

-- the change stands, now and after a stop
pub either_second : (w : World) (es : List (KeptUnder × KeptReply)) (xs : List BoardEntry) (a b : State) → IsListed w es xs b
    → HoldsEither a b (IsListed w es xs) (λ t. t ≡ listed w es xs)
either_second w es xs a b held = record { held = inr held; stops = λ t left. inr (left ∙ sym held.is) }

-- what a new keeper has
pub opened : (w : World) (es : List (KeptUnder × KeptReply)) (xs : List BoardEntry) (name key : List ℕ) → w ≡ opening_world name key → es ≡ [] → xs ≡ []
    → IsListed w es xs (opening name key)
opened w es xs name key made none no_entry = record {
  good = opens name key;
  is = λ i. record { world = sym made i; kept = ap (λ l. from_entries {R = name_cmp} (map named l)) (sym none) i; history = ap (with_entries empty) (sym no_entry) i };
}

-- what is kept under the name of a call is its content in the state
pub contents_kept : (w : World) (es : List (KeptUnder × KeptReply)) (xs : List BoardEntry) → content_in (listed w es xs) ≡ content_among (map named es)
contents_kept w es xs = λ i member id. option_map (λ (kept : KeptReply). kept.content) (get-from_entries names_total (map named es) (member, id) i)

pub page_listed : (w : World) (es : List (KeptUnder × KeptReply)) (xs : List BoardEntry) (s : State) (b : Board) (which : Which) → IsListed w es xs s
    → page_of (content_among (map named es)) (ids b.tasks) (entries_in b.number xs) which ≡ history_seen s b which
page_listed w es xs s b which held =
    ap (λ kept. page_of kept (ids b.tasks) (entries_in b.number xs) which) (sym (contents_kept w es xs))
    ∙ ap (λ l. page_of (content_in (listed w es xs)) (ids b.tasks) l which) (sym (entries_of_board xs b.number))
    ∙ ap (λ t. history_seen t b which) (sym held.is)
