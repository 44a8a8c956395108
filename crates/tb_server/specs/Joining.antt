-- What was done in two parts is done in one.
use Rattle.std.specs.Prelude.{◌≡◌, ℕ, Bool, true, false, List, [], ◌∷◌, ◌++◌, Option, length, nat_lt}
use Rattle.std.proofs.Common.{refl, sym, ap, ◌∙◌, subst, append_assoc}
use Rattle.std.proofs.lemmas.List.Elements.{filter-append}
use Rattle.tb_calls.specs.Call.{State}
use Rattle.tb_calls.specs.Leaving.{Only}
use Rattle.tb_event_loop.specs.Done.{Done}
use Rattle.tb_serve.specs.Server.{Plays, talk_at, server}
use Rattle.tb_serve.proofs.Following as following
use Rattle.tb_serve.proofs.Steps.{plays_none, plays_then}
use Rattle.tb_server.specs.Serves.{AreTimed, Makes, Serves, at_places, moment_of, moments_of}
use Rattle.tb_serve.specs.Turns.{Happening, Talk, done_in}
use Rattle.tb_serve.proofs.Interleaved.{done_then, run_then}
use Rattle.tb_site.specs.declared.site.Site.{Site}

timed_then : (first more : List (ℕ × Done)) (t u : List (ℕ × Happening (Option ℕ)))
    → AreTimed first t → AreTimed more u → AreTimed (first ++ more) (t ++ u)
timed_then [] more [] u is are = are
timed_then [] more (other ∷ t) u is are = absurd is
timed_then (one ∷ first) more [] u is are = absurd is
timed_then (one ∷ first) more (other ∷ t) u is are =
    (is.0, is.1, timed_then first more t u is.2 are)

pub moments_then : (t u : List (ℕ × Happening (Option ℕ)))
    → moments_of (t ++ u) ≡ moments_of t ++ moments_of u
moments_then [] u = refl
moments_then (one ∷ t) u = ap (λ more. moment_of one.1 ++ more) (moments_then t u)
    ∙ sym (append_assoc (moment_of one.1) (moments_of t) (moments_of u))

both : (a b c d : List (ℕ × Happening (Option ℕ))) → a ≡ b → c ≡ d → a ++ c ≡ b ++ d
both a b c d ab cd = ap (λ x. x ++ c) ab ∙ ap (λ y. b ++ y) cd

makes_then : (site : Site) (stopped : Bool) (s : State)
    (done more : List (ℕ × Happening (Option ℕ))) (talks middle later : ℕ → Talk)
    (now stops next next_stops : State → Type 0)
    → Plays site s done talks middle now stops
    → ((t : State) → now t → Only t stops → Makes site stopped t more middle later next next_stops)
    → Makes site stopped s (done ++ more) talks later next next_stops
makes_then site false s done more talks middle later now stops next next_stops first go_on =
    plays_then site s done more talks middle later now stops next next_stops first go_on
makes_then site true s done more talks middle later now stops next next_stops first go_on =
    let second = go_on first.1 first.4.held first.4.stops in
    let at : ℕ × Happening (Option ℕ) = (second.place, second.last) in
    record {
      ks = first.0 ++ second.ks;
      end = second.end;
      middle = second.middle;
      place = second.place;
      last = second.last;
      done_is = ap (λ l. l ++ at ∷ []) (done_then first.0 second.ks)
          ∙ append_assoc (done_in first.0) (done_in second.ks) (at ∷ [])
          ∙ both (done_in first.0) done (done_in second.ks ++ at ∷ []) more first.2 second.done_is;
      run = run_then (server site) s talks first.0 first.1 middle second.ks second.end second.middle
          first.3 second.run;
      stopped = second.stopped;
      others = second.others;
    }

-- nothing was done
pub serves_none : {T : Type 0} (gives : List (Option ℕ) → T → T → Type 0)
    (unasked : (c : T) → gives [] c c) (clock : T)
    (site : Site) (talks : List Talk) (is_honest : Bool) (now stops : State → Type 0)
    → Serves gives clock clock site site false [] talks talks is_honest is_honest now stops now stops
serves_none gives unasked clock site talks is_honest now stops = record {
  page = refl;
  places = refl;
  calls = following.unchanged now stops;
  timed = [];
  fits = tt;
  asked = unasked clock;
  honest = λ honest. honest;
  run = λ honest s held only. plays_none site s (talk_at talks) now stops held only;
}

pub serves_then : {T : Type 0} (gives : List (Option ℕ) → T → T → Type 0)
    (joins : (first more : List (Option ℕ)) (a b c : T) → gives first a b → gives more b c
    → gives (first ++ more) a c) (clock mid_clock later_clock : T) (site between_site kept : Site) (stopped : Bool) (first more : List (ℕ × Done))
    (talks middle later : List Talk) (was_honest between is_honest : Bool)
    (old old_stops mid mid_stops now stops : State → Type 0)
    → Serves gives clock mid_clock site between_site false first talks middle was_honest between old old_stops
    mid mid_stops
    → Serves gives mid_clock later_clock between_site kept stopped more middle later between is_honest mid mid_stops now stops
    → Serves gives clock later_clock site kept stopped
    (first ++ more) talks later was_honest is_honest old old_stops now stops
serves_then gives joins clock mid_clock later_clock site between_site kept stopped first more talks middle later was_honest between
    is_honest old old_stops mid mid_stops now stops one two = record {
      page = two.page ∙ one.page;
      places = two.places ∙ one.places;
      calls = following.joined stopped old old_stops mid mid_stops now stops one.calls two.calls;
      timed = one.timed ++ two.timed;
      fits = timed_then first more one.timed two.timed one.fits two.fits;
      asked = subst (λ (moments : List (Option ℕ)). gives moments clock later_clock)
          (sym (moments_then one.timed two.timed))
          (joins (moments_of one.timed) (moments_of two.timed) clock mid_clock later_clock one.asked
          two.asked);
      honest = λ honest. one.honest (two.honest honest);
      run = λ honest s held only.
          let count = length talks in
          subst (λ (done : List (ℕ × Happening (Option ℕ))). Makes site stopped s done
          (talk_at talks)
          (talk_at later) now stops)
          (sym (filter-append (λ place. nat_lt place.0 count) one.timed two.timed))
          (makes_then site stopped s (at_places count one.timed) (at_places count two.timed)
          (talk_at talks) (talk_at middle) (talk_at later) mid mid_stops now stops
          (one.run (two.honest honest) s held only)
          (λ t stood alone. subst
          (λ (n : ℕ). Makes site stopped t (at_places n two.timed) (talk_at middle)
          (talk_at later) now stops) one.places
          (subst (λ (page : Site). Makes page stopped t (at_places (length middle) two.timed)
          (talk_at middle) (talk_at later) now stops) one.page (two.run honest t stood alone))));
    }
