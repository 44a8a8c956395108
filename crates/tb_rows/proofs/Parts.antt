-- The changes of rows by a part are those of the whole worlds.
use Rattle.std.proofs.Common.{◌≡◌, ◌==◌, ◌+◌, ◌<◌, ℕ, true, false, List, [], ◌∷◌, ◌++◌, Option, Some, None, find, flat_map, length, refl, sym, ap, ◌∙◌, subst, inl, inr, arith}
use Rattle.std.specs.List.{AllByRecursion, list_any, range_with_len}
use Rattle.std.proofs.lemmas.Bool.{cases_Bool, eqb-true, le-leb, ne_eqb}
use Rattle.std.proofs.lemmas.List.{append-nil}
use Rattle.tb_board.specs.declared.board.Board.{Board}
use Rattle.tb_board.specs.declared.change.Change.{Change}
use Rattle.tb_board.specs.declared.change.Change.TheVariants.{PutTask, AddPerson as NewPerson, SetKey, AddBoard as NewBoard, SetTitle as NewTitle, SetRole, SetGone, TakeGone, SetAhead}
use Rattle.tb_board.specs.declared.world.Role.{Role}
use Rattle.tb_board.specs.declared.world.Role.TheVariants.{Owner}
use Rattle.tb_board.specs.declared.world.World.{World}
use Rattle.tb_board.specs.Changing.{change_board, changed, changed_by, changed_on, replayed, IsOn}
use Rattle.tb_board.specs.Good.{IsGood}
use Rattle.tb_board.specs.World.{find_board, has_number, empty_board}
use Rattle.tb_board.proofs.Worlds.{changed-append, changed-one}
use Rattle.tb_core.specs.GoodWorld.{numbers, IsGoodWorld}
use Rattle.tb_core.specs.Shapes.{AreOfOne}
use Rattle.tb_sql.specs.declared.changes.RowChange.TheVariants.{AddPerson, SetSecret, AddBoard, AddHorizon}
use Rattle.tb_rows.specs.declared.part.BoardPart.{BoardPart}
use Rattle.tb_rows.specs.Part.{board_in, board_of, is_small_part, part_board, part_of, part_of_board, role_set, rows_of_part, single_changes, touched_board, IsPartOf}
use Rattle.tb_rows.specs.Rows.{board_row, horizon_row, person_row, secret_of}
use Rattle.tb_rows.specs.Small.{has_few_tasks}
use Rattle.tb_rows.specs.Steps.{is_of_board, kept_board, Leads}
use Rattle.tb_rows.proofs.WholeWorlds.{board_changes, is_role_change, new_board, people_changes, person_changes, role_changes, world_changes}
use Rattle.tb_rows.proofs.Leading.{leads}
use Rattle.tb_rows.proofs.RolesSet.{last_role, role_in, role_in_set, SetNoRole}

-- ---- changes of one board

-- of the boards only n is named
abbrev NameOnly : ℕ → List Change → Type 0
NameOnly n cs = (m : ℕ) → (m == n) ≡ false → list_any (is_of_board m) cs ≡ false

abbrev NameNone : List Change → Type 0
NameNone cs = (m : ℕ) → list_any (is_of_board m) cs ≡ false

not_of : (m n : ℕ) (c : Change) → IsOn n c → (m == n) ≡ false → is_of_board m c ≡ false
not_of m n (PutTask k place t) on apart = rw on apart
not_of m n (SetGone k g) on apart = rw on apart
not_of m n (TakeGone k id place) on apart = rw on apart
not_of m n (SetAhead k ahead) on apart = rw on apart
not_of m n (NewPerson name key) on apart = absurd on
not_of m n (SetKey name key) on apart = absurd on
not_of m n (NewBoard k title) on apart = absurd on
not_of m n (NewTitle k title) on apart = rw on apart
not_of m n (SetRole k person role) on apart = absurd on

one_named : (n : ℕ) (cs : List Change) → AllByRecursion (IsOn n) cs → NameOnly n cs
one_named n [] on m apart = refl
one_named n (c ∷ cs) on m apart = rw (not_of m n c on.0 apart) (one_named n cs on.1 m apart)

role_named : (n q : ℕ) (role : Option Role) (cs : List Change) → AllByRecursion (IsOn n) cs → NameOnly n (cs ++ SetRole n q role ∷ [])
role_named n q role [] on m apart = refl
role_named n q role (c ∷ cs) on m apart = rw (not_of m n c on.0 apart) (role_named n q role cs on.1 m apart)

is_board_of : (n : ℕ) (c : Change) → IsOn n c → board_of c ≡ Some n
is_board_of n (PutTask k place t) on = ap Some on
is_board_of n (SetGone k g) on = ap Some on
is_board_of n (TakeGone k id place) on = ap Some on
is_board_of n (SetAhead k ahead) on = ap Some on
is_board_of n (NewPerson name key) on = absurd on
is_board_of n (SetKey name key) on = absurd on
is_board_of n (NewBoard k title) on = absurd on
is_board_of n (NewTitle k title) on = ap Some on
is_board_of n (SetRole k person role) on = absurd on

no_role : (n : ℕ) (c : Change) → IsOn n c → is_role_change c ≡ false
no_role n (PutTask k place t) on = refl
no_role n (SetGone k g) on = refl
no_role n (TakeGone k id place) on = refl
no_role n (SetAhead k ahead) on = refl
no_role n (NewPerson name key) on = absurd on
no_role n (SetKey name key) on = absurd on
no_role n (NewBoard k title) on = absurd on
no_role n (NewTitle k title) on = refl
no_role n (SetRole k person role) on = absurd on

no_roles : (n : ℕ) (cs : List Change) → AllByRecursion (IsOn n) cs → SetNoRole cs
no_roles n [] on = tt
no_roles n (c ∷ cs) on = (no_role n c on.0, no_roles n cs on.1)

no_role_rows : (n : ℕ) (cs : List Change) → AllByRecursion (IsOn n) cs → list_any is_role_change cs ≡ false
no_role_rows n [] on = refl
no_role_rows n (c ∷ cs) on = rw (no_role n c on.0) (no_role_rows n cs on.1)

not_single : (people n : ℕ) (c : Change) → IsOn n c → single_changes people c ≡ []
not_single people n (PutTask k place t) on = refl
not_single people n (SetGone k g) on = refl
not_single people n (TakeGone k id place) on = refl
not_single people n (SetAhead k ahead) on = refl
not_single people n (NewPerson name key) on = absurd on
not_single people n (SetKey name key) on = absurd on
not_single people n (NewBoard k title) on = absurd on
not_single people n (NewTitle k title) on = refl
not_single people n (SetRole k person role) on = absurd on

not_person : (people n : ℕ) (c : Change) → IsOn n c → person_changes people c ≡ []
not_person people n (PutTask k place t) on = refl
not_person people n (NewTitle k title) on = refl
not_person people n (SetGone k g) on = refl
not_person people n (TakeGone k id place) on = refl
not_person people n (SetAhead k ahead) on = refl
not_person people n (NewPerson name key) on = absurd on
not_person people n (SetKey name key) on = absurd on
not_person people n (NewBoard k title) on = absurd on
not_person people n (SetRole k person role) on = absurd on

-- nor do they change people, where what follows them doesn't
no_people : (n : ℕ) (own more : List Change) (w : World) → AllByRecursion (IsOn n) own → ((v : World) → people_changes v more ≡ []) → people_changes w (own ++ more) ≡ []
no_people n [] more w on none = none w
no_people n (c ∷ own) more w on none =
    ap (λ l. l ++ people_changes (changed_by w c) (own ++ more)) (not_person (length w.people) n c on.0) ∙ no_people n own more (changed_by w c) on.1 none

-- such changes give no rows by themselves, whatever follows them
own_singles : (people n : ℕ) (own more : List Change) → AllByRecursion (IsOn n) own → flat_map (single_changes people) (own ++ more) ≡ flat_map (single_changes people) more
own_singles people n [] more on = refl
own_singles people n (c ∷ own) more on = ap (λ l. l ++ flat_map (single_changes people) (own ++ more)) (not_single people n c on.0) ∙ own_singles people n own more on.1

-- ---- the changes of rows of all boards

kept_none : (old : ℕ) (x : Board) (cs : List Change) → list_any (is_of_board x.number) cs ≡ false → kept_board old x cs ≡ []
kept_none old x cs none = rw none refl

silent_boards : (cs : List Change) (bs : List Board) → NameNone cs → board_changes cs bs bs ≡ []
silent_boards cs [] none = refl
silent_boards cs (x ∷ xs) none = ap (λ l. l ++ board_changes cs xs xs) (kept_none (length x.tasks) x cs (none x.number)) ∙ silent_boards cs xs none

-- boards of greater numbers
past : (n k : ℕ) (cs : List Change) (bs : List Board) → numbers bs ≡ range_with_len k (length bs) → n < k → NameOnly n cs → board_changes cs bs bs ≡ []
past n k cs [] numbered less only = refl
past n k cs (x ∷ xs) numbered less only =
    let first : x.number ≡ k = cc in
    let rest : numbers xs ≡ range_with_len (k + 1) (length xs) = cc in
    let apart : (x.number == n) ≡ false = ne_eqb x.number n (λ same. omega (arith, less, same, first)) in
    ap (λ l. l ++ board_changes cs xs xs) (kept_none (length x.tasks) x cs (only x.number apart)) ∙ past n (k + 1) cs xs rest (omega (arith, less)) only

-- the touched board alone has changes
one_of : (n k : ℕ) (f : Board → Board) (cs : List Change) (bs : List Board) (b : Board) → numbers bs ≡ range_with_len k (length bs) → NameOnly n cs → find (has_number n) bs ≡ Some b
    → board_changes cs bs (change_board n f bs) ≡ kept_board (length b.tasks) (f b) cs
one_of n k f cs [] b numbered only found = absurd (cc)
one_of n k f cs (x ∷ xs) b numbered only found =
    let first : x.number ≡ k = cc in
    let rest : numbers xs ≡ range_with_len (k + 1) (length xs) = cc in
    elim (cases_Bool (has_number n x)) [
      | inl here ↦
          let is_first : Some x ≡ Some b = rw here at found in
          let is : x ≡ b = cc in
          let less : n < k + 1 = omega (arith, eqb-true x.number n here, first) in
          rw here
          (ap (λ l. kept_board (length x.tasks) (f x) cs ++ l) (past n (k + 1) cs xs rest less only) ∙ append-nil _ ∙ ap (λ (y : Board). kept_board (length y.tasks) (f y) cs) is)
      | inr other ↦
          let later : find (has_number n) xs ≡ Some b = rw other at found in
          rw other
          (ap (λ l. l ++ board_changes cs xs (change_board n f xs)) (kept_none (length x.tasks) x cs (only x.number other)) ∙ one_of n (k + 1) f cs xs b rest only later)
    ]

none_of : (n : ℕ) (f : Board → Board) (cs : List Change) (bs : List Board) → NameOnly n cs → find (has_number n) bs ≡ None → board_changes cs bs (change_board n f bs) ≡ []
none_of n f cs [] only found = refl
none_of n f cs (x ∷ xs) only found =
    elim (cases_Bool (has_number n x)) [
      | inl here ↦ let no : Some x ≡ None = rw here at found in absurd (cc)
      | inr other ↦
          let later : find (has_number n) xs ≡ None = rw other at found in
          rw other (ap (λ l. l ++ board_changes cs xs (change_board n f xs)) (kept_none (length x.tasks) x cs (only x.number other)) ∙ none_of n f cs xs only later)
    ]

begun_board : (cs : List Change) (bs : List Board) (b : Board) → NameNone cs → board_changes cs bs (bs ++ b ∷ []) ≡ new_board b
begun_board cs [] b none = append-nil (new_board b)
begun_board cs (x ∷ xs) b none = ap (λ l. l ++ board_changes cs xs (xs ++ b ∷ [])) (kept_none (length x.tasks) x cs (none x.number)) ∙ begun_board cs xs b none

-- ---- a world of which one board is touched

record Touches (w : World) (cs : List Change) (n : ℕ) : Type 0 where
  made : Board → Board
  boards : (changed w cs).boards ≡ change_board n made w.boards
  agrees : (b : Board) → made b ≡ replayed b cs
  touched : touched_board cs ≡ Some n
  only : NameOnly n cs

one_touched : (w : World) (n : ℕ) (c : Change) (cs : List Change) → AllByRecursion (IsOn n) (c ∷ cs) → Touches w (c ∷ cs) n
one_touched w n c cs on =
    record {
      made = λ b. replayed b (c ∷ cs);
      boards = ap (λ (v : World). v.boards) (changed-one w n (c ∷ cs) on);
      agrees = λ b. refl;
      touched = is_board_of n c on.0;
      only = one_named n (c ∷ cs) on;
    }

-- a role leaves the board as it is
replayed-role : (n q : ℕ) (role : Option Role) (own : List Change) (b : Board) → replayed b own ≡ replayed b (own ++ SetRole n q role ∷ [])
replayed-role n q role [] b = refl
replayed-role n q role (c ∷ own) b = replayed-role n q role own (changed_on b c)

-- the world after changes of a board and then a role
changed-role : (w : World) (n q : ℕ) (role : Option Role) (own : List Change) → AllByRecursion (IsOn n) own
    → changed w (own ++ SetRole n q role ∷ []) ≡ changed_by (record w { boards = change_board n (λ b. replayed b own) w.boards }) (SetRole n q role)
changed-role w n q role own on = changed-append w own (SetRole n q role ∷ []) ∙ ap (λ v. changed_by v (SetRole n q role)) (changed-one w n own on)

role_touched : (w : World) (n q : ℕ) (role : Option Role) (c : Change) (own : List Change) → AllByRecursion (IsOn n) (c ∷ own) → Touches w (c ∷ own ++ SetRole n q role ∷ []) n
role_touched w n q role c own on =
    record {
      made = λ b. replayed b (c ∷ own);
      boards = ap (λ (v : World). v.boards) (changed-role w n q role (c ∷ own) on);
      agrees = replayed-role n q role (c ∷ own);
      touched = is_board_of n c on.0;
      only = role_named n q role (c ∷ own) on;
    }

module _ (w : World) (cs : List Change) (n : ℕ) (touches : Touches w cs n) where
  part_at : part_of w cs ≡ part_of_board (find_board w n) cs
  part_at = ap (λ o. part_of_board (board_in w o) cs) touches.touched

  touched_rows : IsGoodWorld w → board_changes cs w.boards (changed w cs).boards ≡ part_board (part_of w cs) cs
  touched_rows good = ap (board_changes cs w.boards) touches.boards ∙ at (find_board w n) refl ∙ ap (λ p. part_board p cs) (sym part_at)
    where
      at : (o : Option Board) → find_board w n ≡ o → board_changes cs w.boards (change_board n touches.made w.boards) ≡ part_board (part_of_board o cs) cs
      at None found = none_of n touches.made cs w.boards touches.only found
      at (Some b) found = one_of n 1 touches.made cs w.boards b good.numbered touches.only found ∙ ap (λ later. kept_board (length b.tasks) later cs) (touches.agrees b)

  good_at : (f : Board → Board) (bs : List Board) (b : Board) → AllByRecursion IsGood (change_board n f bs) → find (has_number n) bs ≡ Some b → IsGood (f b)
  good_at f [] b good found = absurd (cc)
  good_at f (x ∷ xs) b good found =
      elim (cases_Bool (has_number n x)) [
        | inl here ↦
            let is_first : Some x ≡ Some b = rw here at found in
            let is : x ≡ b = cc in
            let there : AllByRecursion IsGood (f x ∷ xs) = rw here at good in
            subst (λ y. IsGood (f y)) is there.0
        | inr other ↦
            let later : find (has_number n) xs ≡ Some b = rw other at found in
            let there : AllByRecursion IsGood (x ∷ change_board n f xs) = rw other at good in
            good_at f xs b there.1 later
      ]

  touched_small : IsGoodWorld (changed w cs) → is_small_part (part_of w cs) ≡ true
  touched_small good = ap is_small_part part_at ∙ at (find_board w n) refl
    where
      at : (o : Option Board) → find_board w n ≡ o → is_small_part (part_of_board o cs) ≡ true
      at None found = refl
      at (Some b) found =
          let is_good = good_at touches.made w.boards b (subst (AllByRecursion IsGood) touches.boards good.good) found in
          ap has_few_tasks (sym (touches.agrees b)) ∙ le-leb (length (touches.made b).tasks) 10000 is_good.few

-- ---- the five shapes

all_three : {A : Type 0} (people boards roles part singles : List A) → people ≡ [] → boards ≡ part → roles ≡ singles → people ++ (boards ++ roles) ≡ part ++ singles
all_three people boards roles part singles none same given = ap (λ l. l ++ (boards ++ roles)) none ∙ ap (λ l. l ++ roles) same ∙ ap (λ l. part ++ l) given

-- the changes of rows by the part are those of the worlds, and the part is small
record IsRight (w : World) (cs : List Change) : Type 0 where
  rows : world_changes w (changed w cs) cs ≡ rows_of_part (length w.people) (part_of w cs) cs
  small : is_small_part (part_of w cs) ≡ true

same_people : (w : World) (n : ℕ) (cs : List Change) → AllByRecursion (IsOn n) cs → people_changes w cs ≡ []
same_people w n cs on = ap (people_changes w) (sym (append-nil cs)) ∙ no_people n cs [] w on (λ v. refl)

no_changes_of_roles : (n : ℕ) (cs : List Change) (v : World) → AllByRecursion (IsOn n) cs → role_changes cs v.roles ≡ []
no_changes_of_roles n cs v on = rw (no_role_rows n cs on) refl

one_board : (w : World) (n : ℕ) (cs : List Change) → AllByRecursion (IsOn n) cs → IsGoodWorld w → IsGoodWorld (changed w cs) → IsRight w cs
one_board w n [] on good later =
    record { rows = all_three _ _ _ [] [] refl (silent_boards [] w.boards (λ m. refl)) refl; small = refl }
one_board w n (c ∷ cs) on good later =
    let all = c ∷ cs in
    let v = changed w all in
    let touches = one_touched w n c cs on in
    let singles : role_changes all v.roles ≡ flat_map (single_changes (length w.people)) all =
    no_changes_of_roles n all v on ∙ sym (ap (flat_map (single_changes (length w.people))) (sym (append-nil all)) ∙ own_singles (length w.people) n all [] on) in
    record {
      rows = all_three _ _ _ _ _ (same_people w n all on) (touched_rows w all n touches good) singles;
      small = touched_small w all n touches later;
    }

module _ (w : World) (n q : ℕ) (role : Option Role) where
  -- what comes out of a role behind changes of the board
  with_role : (own : List Change) → AllByRecursion (IsOn n) own → IsGoodWorld w → IsGoodWorld (changed w (own ++ SetRole n q role ∷ []))
      → role_changes (own ++ SetRole n q role ∷ []) (changed w (own ++ SetRole n q role ∷ [])).roles ≡ flat_map (single_changes (length w.people)) (own ++ SetRole n q role ∷ [])
  with_role own on good later =
      let v = changed w (own ++ SetRole n q role ∷ []) in
      let has : role_in n q v.roles ≡ role = ap (λ (u : World). role_in n q u.roles) (changed-role w n q role own on) ∙ role_in_set n q role w.roles good.ordered in
      last_role own n q role v.roles (no_roles n own on) later.ordered has
      ∙ sym (own_singles (length w.people) n own (SetRole n q role ∷ []) on ∙ append-nil (role_set n q role))

  ends_in_role : (own : List Change) → AllByRecursion (IsOn n) own → IsGoodWorld w → IsGoodWorld (changed w (own ++ SetRole n q role ∷ [])) → IsRight w (own ++ SetRole n q role ∷ [])
  ends_in_role [] on good later =
      record { rows = all_three _ _ _ [] _ refl (silent_boards (SetRole n q role ∷ []) w.boards (λ m. refl)) (with_role [] on good later); small = refl }
  ends_in_role (c ∷ own) on good later =
      let all = c ∷ own ++ SetRole n q role ∷ [] in
      let touches = role_touched w n q role c own on in
      record {
        rows = all_three _ _ _ _ _ (no_people n (c ∷ own) (SetRole n q role ∷ []) w on (λ v. refl)) (touched_rows w all n touches good)
            (with_role (c ∷ own) on good later);
        small = touched_small w all n touches later;
      }

begins_board : (w : World) (n : ℕ) (title : List ℕ) (q : ℕ) → IsGoodWorld w → IsGoodWorld (changed w (NewBoard n title ∷ SetRole n q (Some Owner) ∷ []))
    → IsRight w (NewBoard n title ∷ SetRole n q (Some Owner) ∷ [])
begins_board w n title q good later =
    let cs = NewBoard n title ∷ SetRole n q (Some Owner) ∷ [] in
    let v = changed w cs in
    let roles : role_changes cs v.roles ≡ role_set n q (Some Owner) =
    last_role (NewBoard n title ∷ []) n q (Some Owner) v.roles (refl, tt) later.ordered (role_in_set n q (Some Owner) w.roles good.ordered) in
    record {
      rows = all_three _ _ _ (AddBoard (board_row (empty_board n title)) ∷ AddHorizon (horizon_row (empty_board n title)) ∷ []) _ refl (begun_board cs w.boards (empty_board n title) (λ m. refl)) (roles ∙ sym (append-nil (role_set n q (Some Owner))));
      small = refl;
    }

lets_in : (w : World) (name key : List ℕ) → IsRight w (NewPerson name key ∷ [])
lets_in w name key =
    record {
      rows = ap (λ l. AddPerson (person_row (length w.people + 1) (record { name = name; key = Some key })) ∷ l ++ []) (silent_boards (NewPerson name key ∷ []) w.boards (λ m. refl));
      small = refl;
    }

gives_key : (w : World) (name : List ℕ) (key : Option (List ℕ)) → IsRight w (SetKey name key ∷ [])
gives_key w name key =
    record {
      rows = ap (λ l. SetSecret name (secret_of key) ∷ l ++ []) (silent_boards (SetKey name key ∷ []) w.boards (λ m. refl));
      small = refl;
    }

of_shape : (w : World) (cs : List Change) → AreOfOne cs → IsGoodWorld w → IsGoodWorld (changed w cs) → IsRight w cs
of_shape w cs (inl one) good later = one_board w one.board cs one.are_on good later
of_shape w cs (inr (inl ends)) good later =
    subst (IsRight w) (sym ends.are) (ends_in_role w ends.board ends.person ends.role ends.own ends.are_on good (subst (λ ds. IsGoodWorld (changed w ds)) ends.are later))
of_shape w cs (inr (inr (inl begins))) good later =
    subst (IsRight w) (sym begins.are) (begins_board w begins.board begins.title begins.person good (subst (λ ds. IsGoodWorld (changed w ds)) begins.are later))
of_shape w cs (inr (inr (inr (inl lets)))) good later = subst (IsRight w) (sym lets.are) (lets_in w lets.name lets.key)
of_shape w cs (inr (inr (inr (inr gives)))) good later = subst (IsRight w) (sym gives.are) (gives_key w gives.name gives.key)

-- ---- what the part gives

module _ (w : World) (people : ℕ) (part : Option BoardPart) (cs : List Change) (is : IsPartOf w people part cs) where
  is_right : IsRight w cs
  is_right = of_shape w cs is.shape is.good is.later

  pub part_leads : Leads (rows_of_part people part cs) w (changed w cs)
  part_leads =
      let rows : world_changes w (changed w cs) cs ≡ rows_of_part people part cs =
      is_right.rows ∙ ap (λ n. rows_of_part n (part_of w cs) cs) (sym is.people_are) ∙ ap (λ p. rows_of_part people p cs) (sym is.touched) in
      subst (λ xs. Leads xs w (changed w cs)) rows (leads w (changed w cs) cs is.good is.later is.extends refl)
