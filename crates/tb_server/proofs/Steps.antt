-- One thing that was done to a server.
use Rattle.std.proofs.Common.{◌≡◌, ℕ, zero, suc, ◌++◌, ◌<◌, ◌≤◌, Bool, true, false, cond, List, [], ◌∷◌, length, Option, Some, None, Result, Ok, Err, refl, sym, ap, ◌∙◌, subst, take, drop, append-nil, arith}
use Rattle.std.specs.Prelude.{◌==◌}
use Rattle.std.proofs.lemmas.Bool.{eqb-true, le-ltb, lt-ltb}
use Rattle.std.proofs.lemmas.List.{drop_all, take_all}
use Rattle.tb_calls.specs.Call.{State}
use Rattle.tb_calls.specs.Leaving.{Only}
use Rattle.tb_event_loop.specs.Done.{Done}
use Rattle.tb_serve.specs.Following.{Follows, has_stopped}
use Rattle.tb_serve.specs.Server.{Comes, Happens, Plays, talk_at, Timed, server}
use Rattle.tb_serve.proofs.Following as following
use Rattle.tb_serve.proofs.Steps.{plays_none}
use Rattle.tb_serve.specs.declared.serving.ServeFault.{ServeFault}
use Rattle.tb_serve.specs.declared.serving.ServeFault.TheVariants.{ReadFailed, WriteFailed, Store, Memory}
use Rattle.tb_server.specs.Serves.{IsTimed, Makes, Serves, at_places, moment_of, moments_of}
use Rattle.tb_serve.specs.Turns.{Event, Happening, Moves, MovesIf, Talk, after_event, silent}
use Rattle.tb_site.specs.declared.site.Site.{Site}

moves_if : (site : Site) (place c : ℕ) (is : Bool) (s : State) (e : Event Timed) (talks later : ℕ → Talk) → (place == c) ≡ is → Moves (server site) s e (talks place) (later place)
    → ((d : ℕ) → (place == d) ≡ false → later d ≡ talks d) → MovesIf (server site) is s e (talks c) (later c)
moves_if site place c true s e talks later at moves others = subst (λ (d : ℕ). Moves (server site) s e (talks d) (later d)) (eqb-true place c at) moves
moves_if site place c false s e talks later at moves others = others c at

comes_plays : (site : Site) (fault : Option ServeFault) (s : State) (place : ℕ) (timed : Happening (Option ℕ)) (talks later : ℕ → Talk) (now stops : State → Type 0)
    → Comes site fault s timed (talks place) (later place) now stops → ((d : ℕ) → (place == d) ≡ false → later d ≡ talks d)
    → Plays site s ((place, timed) ∷ []) talks later now stops
comes_plays site fault s place timed talks later now stops is others = (
  record { place = place; happening = timed; event = is.0 } ∷ [],
  after_event (server site) s is.0,
  refl,
  (is.1, later, λ c. moves_if site place c (place == c) s is.0 talks later refl is.3 others, (refl, λ c. refl)),
  is.4,
)

happens_makes : {T : Type 0} (site : Site) (r : Result T ServeFault) (s : State) (place : ℕ) (timed : Happening (Option ℕ)) (talks later : ℕ → Talk) (now stops : State → Type 0)
    → Happens site r s place timed talks later now stops → Makes site (has_stopped r) s ((place, timed) ∷ []) talks later now stops
happens_makes site (Ok x) s place timed talks later now stops is = comes_plays site None s place timed talks later now stops is.0 is.1
happens_makes site (Err ReadFailed) s place timed talks later now stops is = absurd is.0
happens_makes site (Err WriteFailed) s place timed talks later now stops is = comes_plays site (Some WriteFailed) s place timed talks later now stops is.0 is.1
happens_makes site (Err Memory) s place timed talks later now stops is = comes_plays site (Some Memory) s place timed talks later now stops is.0 is.1
happens_makes site (Err Store) s place timed talks later now stops is = record {
  ks = [];
  end = s;
  middle = talks;
  place = place;
  last = timed;
  done_is = refl;
  run = (refl, λ c. refl);
  stopped = is.0;
  others = is.1;
}

one_there : (count place : ℕ) (timed : Happening (Option ℕ)) → place < count → at_places count ((place, timed) ∷ []) ≡ (place, timed) ∷ []
one_there count place timed inside = ap (λ b. cond b ((place, timed) ∷ []) []) (lt-ltb place count inside)

none_there : (count place : ℕ) (timed : Happening (Option ℕ)) → count ≤ place → at_places count ((place, timed) ∷ []) ≡ []
none_there count place timed past = ap (λ b. cond b ((place, timed) ∷ []) []) (le-ltb place count past)

-- the clock gave the moment of the one thing that was done
asked_once : {T : Type 0} (gives : List (Option ℕ) → T → T → Type 0) (clock later_clock : T) (place : ℕ) (timed : Happening (Option ℕ))
    → gives (moment_of timed) clock later_clock → gives (moments_of ((place, timed) ∷ [])) clock later_clock
asked_once gives clock later_clock place timed asked =
    subst (λ (moments : List (Option ℕ)). gives moments clock later_clock) (sym (append-nil (moment_of timed))) asked

-- one thing was done, at a place that there is, to the connections as they were lent
pub one_served : {C T : Type 0} (gives : List (Option ℕ) → C → C → Type 0) (clock later_clock : C) (site : Site) (r : Result T ServeFault) (stopped : Bool) (place : ℕ) (one : Done) (timed : Happening (Option ℕ)) (talks lent later : List Talk)
    (was_honest is_honest : Bool) (old old_stops now stops : State → Type 0)
    → has_stopped r ≡ stopped → place < length talks → length later ≡ length talks → lent ≡ talks → IsTimed one timed → gives (moment_of timed) clock later_clock
    → (is_honest ≡ true → was_honest ≡ true)
    → (is_honest ≡ true → (s : State) → old s → Only s old_stops → Happens site r s place timed (talk_at lent) (talk_at later) now stops)
    → Follows (has_stopped r) old old_stops now stops
    → Serves gives clock later_clock site site stopped ((place, one) ∷ []) talks later was_honest is_honest old old_stops now stops
one_served gives clock later_clock site r stopped place one timed talks lent later was_honest is_honest old old_stops now stops is inside places same fits asked honest happens follows =
    subst (λ (b : Bool). Serves gives clock later_clock site site b ((place, one) ∷ []) talks later was_honest is_honest old old_stops now stops) is (record {
      page = refl;
      places = places;
      calls = follows;
      timed = (place, timed) ∷ [];
      fits = (refl, fits, tt);
      asked = asked_once gives clock later_clock place timed asked;
      honest = honest;
      run = λ y s held only. subst (λ (l : List (ℕ × Happening (Option ℕ))). Makes site (has_stopped r) s l (talk_at talks) (talk_at later) now stops)
          (sym (one_there (length talks) place timed inside))
          (happens_makes site r s place timed (talk_at talks) (talk_at later) now stops
          (subst (λ (l : List Talk). Happens site r s place timed (talk_at l) (talk_at later) now stops) same (happens y s held only)));
    })

-- there is no such place
pub passed : {C : Type 0} (gives : List (Option ℕ) → C → C → Type 0) (clock later_clock : C) (site : Site) (place : ℕ) (one : Done) (timed : Happening (Option ℕ)) (talks : List Talk) (is_honest : Bool) (now stops : State → Type 0)
    → length talks ≤ place → IsTimed one timed → gives (moment_of timed) clock later_clock → Serves gives clock later_clock site site false ((place, one) ∷ []) talks talks is_honest is_honest now stops now stops
passed gives clock later_clock site place one timed talks is_honest now stops past fits asked = record {
  page = refl;
  places = refl;
  calls = following.unchanged now stops;
  timed = (place, timed) ∷ [];
  fits = (refl, fits, tt);
  asked = asked_once gives clock later_clock place timed asked;
  honest = λ y. y;
  run = λ y s held only. subst (λ (l : List (ℕ × Happening (Option ℕ))). Makes site false s l (talk_at talks) (talk_at talks) now stops)
      (sym (none_there (length talks) place timed past))
      (plays_none site s (talk_at talks) now stops held only);
}

-- what was lent of a list is given back as a whole
pub given_back : (len : ℕ) (new old : List Talk) → length new ≡ length old → len ≡ length old → take len (new ++ drop (length new) old) ≡ new
given_back len new old same is =
    let none : length old ≤ length new = omega (arith, same) in
    let all : length new ≤ len = omega (arith, same, is) in
    ap (λ l. take len (new ++ l)) (drop_all (length new) old none) ∙ ap (take len) (append-nil new) ∙ take_all len new all

-- ---- the beginning

-- one more connection to which nothing came
pub silent_more : (talks : List Talk) → ((c : ℕ) → talk_at talks c ≡ silent) → (c : ℕ) → talk_at (talks ++ silent ∷ []) c ≡ silent
silent_more [] are zero = refl
silent_more [] are (suc c) = refl
silent_more (talk ∷ talks) are zero = are zero
silent_more (talk ∷ talks) are (suc c) = silent_more talks (λ d. are (suc d)) c
