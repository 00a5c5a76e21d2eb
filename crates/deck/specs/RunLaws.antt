-- Laws of runs.
--
--   takes_unread, takes_end,
--   takes_whole, takes_cut                what the code does with an arrival, by its kinds
--   turned_unread                         a turn in which a read failed
--   told_fit                              a state that is fit stays so, whatever arrives
--   told_unread                           a failed read stops the run
--   past_low                              the next record begins 8 bytes further on at most
--   turns_snoc                            one turn more
--   Stands run                            some arrivals lead from the start to where the run stands, and it goes on
--   stands-start, stands_on               before the first record, and after a turn that does not stop it
--   ran_stopped, ran_failed, ran_spent    a whole run, ended by its last turn or by the number of turns
--   Keeps .. turn run                     where the run stands after so many turns, beside what was read and written on the way
--   keeps_start, keeps_on                 before the first record, and after a turn that does not stop it
--   ended-stops                           where the input ended in an arrival the run stops
--   played_stopped, played_failed,
--   played_spent                          a whole run, beside what was read and written in it
--   turns-whole                           a run that stopped is the definition's run of the bytes that arrived and of whatever
--                                         follows them, which is nothing where the input ended: the text that it printed, and the
--                                         state it left
--   turns-deck                            so it is of the bytes that arrived alone
--   played-deck                           so is a run over bytes in memory, of what it took of them and of them all: what it wrote,
--                                         and its state
use Rattle.stream.proofs.Bytes.{consumes_none, consumes_more, appends_none, appends_more}
use Rattle.std.specs.Io.KnownBytes.{Consumes, Appends}
use Rattle.std.specs.Prelude.{Option, Some, Result, Ok, Err, ℕ, zero, suc, ◌+◌, ◌≤◌, ◌<◌, Bool, ◌≡◌}
use Rattle.std.proofs.Common.{arith, ◌∙◌, subst}
use Rattle.std.proofs.lemmas.Bool.{false_from_ne_true}
use Rattle.std.proofs.Math.Decide.{ℕ_discrete}
use Rattle.std.proofs.Math.Bool.{true, false}
use mathlib.Core.List.{List, [], ◌∷◌, ◌++◌, append_assoc, append-nil}
use Rattle.std.proofs.Math.Path.{refl, sym, ap, ap₂}
use Rattle.std.proofs.Math.ListN.{length, take, drop, length-append}
use Rattle.std.proofs.Math.Seq.{take_all, take-append_seam, drop-append_seam}
use Rattle.decks.specs.declared.Deck.{Deck}
use Rattle.lines.specs.Text.{line, end_word}
use Rattle.decks.specs.Deck.{body_length, deck_number, Outcome, before, halted, deck, fresh}
use Rattle.decks.specs.DeckLaws.{stepped_refused, follow, stepping, deck-stepping}
use Rattle.decks.specs.Stepped.{Stepped, stepped}
use Rattle.decks.specs.Refusal.{passed, whole_body}
use Rattle.decks.specs.State.{Fit}
use Rattle.decks.specs.Step.{Steps}
use Rattle.decks.specs.StepLaws.{stepped_fit, body_low}
use Rattle.stream.specs.declared.records.Record.{Record}
use Rattle.stream.specs.declared.Stop.TheVariants.{Ended, Failed}
use Rattle.stream.specs.declared.Arrival.{Arrival}
use Rattle.stream.specs.declared.Arrival.TheVariants.{Whole, Cut, Nothing}
use Rattle.stream.specs.Arrival.{Arrives, body_of, bytes_of, stop_of}
use Rattle.deck.specs.declared.Failure.{Failure}
use Rattle.deck.specs.declared.Failure.TheVariants.{Read, Write, Records}
use Rattle.deck.specs.declared.Run.{Run}
use Rattle.deck.specs.declared.Ending.{Ending}
use Rattle.deck.specs.Run.{told, past, Place, start, on, Turns, Unread, AtEnd, Goes, Takes, Turned, Ran, delivered, Unfailed, AllAtEnd, turn_limit, Played}

clash : {X : Type 0} {t : Bool} → t ≡ true → t ≡ false → X
clash p q = let z : ◌≡◌ {A = ℕ} 0 1 = cc in absurd (omega arith)

module _ (run : Run) (a : Arrival) where
  -- a failed read
  unread_takes : (held text : List ℕ) (r : Result Bool Failure) → (told run.deck.state run.offset a).state ≡ run.deck.state → past a ≡ 0
      → Unread a → text ≡ held → r ≡ Err Read → Takes run a run held text r
  unread_takes held text r s p u same e = record {
    goes = record { state = sym s; offset = omega (arith, p) };
    halt = λ stops ok. cc;
    line = λ stops ok. cc;
    unread = (λ _. u, λ _. e);
    kept = λ _. same;
    only = λ other. cc;
    lasts = λ other. cc;
  }

  -- the end of input, or a record
  read_takes : (run' : Run) (held text : List ℕ) (stops : Bool) (r : Result Bool Failure) → Goes run a run'
      → stops ≡ (told run.deck.state run.offset a).halt → text ≡ (told run.deck.state run.offset a).text → (Unread a → ⊥) → r ≡ Ok stops
      → Takes run a run' held text r
  read_takes run' held text stops r g h t n e = record {
    goes = g;
    halt = λ other ok. let same : other ≡ stops = cc in same ∙ h;
    line = λ _ _. t;
    unread = (λ other. cc, λ u. absurd (n u));
    kept = λ other. cc;
    only = λ other. cc;
    lasts = λ other. cc;
  }

module _ (run : Run) where
  pub takes_unread : (a : Arrival) (held text : List ℕ) (r : Result Bool Failure) → Unread a → text ≡ held → r ≡ Err Read → Takes run a run held text r
  unfolding told past
  takes_unread (Whole r) held text result u same e = cc
  takes_unread (Cut r Ended) held text result u same e = cc
  takes_unread (Cut r Failed) held text result u same e = unread_takes run (Cut r Failed) held text result refl refl u same e
  takes_unread (Nothing Ended) held text result u same e = cc
  takes_unread (Nothing Failed) held text result u same e = unread_takes run (Nothing Failed) held text result refl refl u same e

  pub takes_end : (a : Arrival) (held text : List ℕ) (r : Result Bool Failure) → a ≡ Nothing Ended → text ≡ line end_word [] → r ≡ Ok true
      → Takes run a run held text r
  unfolding told past
  takes_end a held text r n t e =
      rw n (read_takes run (Nothing Ended) run held text true r (record { state = refl; offset = omega arith }) refl t (λ u. cc) e)

  module _ (run' : Run) (r : Record) (held text : List ℕ) (stops : Bool) (s : Steps (stepped run.deck.state r.kind (body_of r) run.offset) run'.deck.state stops text)
      (o : run'.offset ≡ run.offset + (1 + body_length r.kind)) (a : Arrival) where
    pub takes_whole : a ≡ Whole r → Takes run a run' held text (Ok stops)
    unfolding told past
    takes_whole e = rw e (read_takes run (Whole r) run' held text stops _ (record { state = s.state; offset = o }) s.halted s.line (λ u. cc) refl)

    pub takes_cut : a ≡ Cut r Ended → Takes run a run' held text (Ok stops)
    unfolding told past
    takes_cut e = rw e (read_takes run (Cut r Ended) run' held text stops _ (record { state = s.state; offset = o }) s.halted s.line (λ u. cc) refl)

pub told_unread : (d : Deck) (offset : ℕ) (a : Arrival) → Unread a → (told d offset a).halt ≡ true
unfolding told
told_unread d offset (Whole r) u = cc
told_unread d offset (Cut r Ended) u = cc
told_unread d offset (Cut r Failed) u = refl
told_unread d offset (Nothing Ended) u = cc
told_unread d offset (Nothing Failed) u = refl

told_nothing : (d : Deck) (offset : ℕ) (a : Arrival) → Unread a → (told d offset a).text ≡ []
unfolding told
told_nothing d offset (Whole r) u = cc
told_nothing d offset (Cut r Ended) u = cc
told_nothing d offset (Cut r Failed) u = refl
told_nothing d offset (Nothing Ended) u = cc
told_nothing d offset (Nothing Failed) u = refl

pub turned_unread : (run run' : Run) (a : Arrival) (held text : List ℕ) (f : Failure) (input input' output : Option (List ℕ))
    → Takes run a run' held text (Err f) → Arrives a → Consumes input input' (bytes_of a) → AtEnd input' a
    → Turned run input input' output output run' held text (Err f)
turned_unread run run' a held text Read input input' output t here bytes end =
    let u : Unread a = t.unread.0 refl in
    record {
      arrival = a;
      arrived = here;
      goes = t.goes;
      halt = λ stops e. cc;
      line = λ n. absurd (n refl);
      read = bytes;
      end = end;
      printed = λ _. subst (λ (s : List ℕ). Appends output output s) (sym (told_nothing run.deck.state run.offset a u)) (appends_none output);
      unread = (λ _. u, λ _. refl);
      kept = t.kept;
      lasts = λ e. cc;
    }
turned_unread run run' a held text Write input input' output t here bytes end = absurd (t.only refl)
turned_unread run run' a held text Records input input' output t here bytes end = absurd (t.lasts refl)

pub told_fit : (d : Deck) (offset : ℕ) (a : Arrival) → Fit d → Fit (told d offset a).state
unfolding told
told_fit d offset (Whole r) fit = stepped_fit d r.kind (body_of r) offset fit
told_fit d offset (Cut r Ended) fit = stepped_fit d r.kind (body_of r) offset fit
told_fit d offset (Cut r Failed) fit = fit
told_fit d offset (Nothing Ended) fit = fit
told_fit d offset (Nothing Failed) fit = fit

pub past_low : (a : Arrival) → past a ≤ 8
unfolding past
past_low (Whole r) = omega (arith, body_low r.kind)
past_low (Cut r Ended) = omega (arith, body_low r.kind)
past_low (Cut r Failed) = omega arith
past_low (Nothing stop) = omega arith

pub turns_snoc : (w : Place) (xs : List Arrival) (v : Place) (a : Arrival) → Turns w xs v → v.halt ≡ false → Arrives a → Turns w (xs ++ a ∷ []) (on v a)
unfolding Turns
turns_snoc w [] v a t h r = (ap (λ (v : Place). v.halt) t ∙ h, r, ap (λ (v : Place). on v a) t)
turns_snoc w (x ∷ xs) v a (g, s, t) h r = (g, s, turns_snoc (on w x) xs v a t h r)

pub record Stands (run : Run) : Type 0 where
  pub arrivals : List Arrival
  pub place : Place
  pub turns : Turns start arrivals place
  pub state : run.deck.state ≡ place.state
  pub offset : run.offset ≡ place.offset
  pub going : place.halt ≡ false

pub stands-start : (run : Run) → run.deck.state ≡ fresh → run.offset ≡ 0 → Stands run
unfolding start Turns
stands-start run s o = record { arrivals = []; place = start; turns = refl; state = s; offset = o; going = refl }

module _ (run : Run) (i' i'' o' o'' : Option (List ℕ)) (run' : Run) (held text : List ℕ) (r : Result Bool Failure) (before : Stands run) (t : Turned run i' i'' o' o'' run' held text r) where
  next : Place
  next = on before.place t.arrival

  next-turns : Turns start (before.arrivals ++ t.arrival ∷ []) next
  unfolding next
  next-turns = turns_snoc start before.arrivals before.place t.arrival before.turns before.going t.arrived

  next-told : told run.deck.state run.offset t.arrival ≡ told before.place.state before.place.offset t.arrival
  next-told = ap₂ (λ (d : Deck) (o : ℕ). told d o t.arrival) before.state before.offset

  next-state : run'.deck.state ≡ next.state
  unfolding next on
  next-state = t.goes.state ∙ ap (λ (s : Stepped). s.state) next-told

  next-halt : (stops : Bool) → r ≡ Ok stops → stops ≡ next.halt
  unfolding next on
  next-halt stops e = t.halt stops e ∙ ap (λ (s : Stepped). s.halt) next-told

  next-offset : run'.offset ≡ next.offset
  unfolding next on
  next-offset = t.goes.offset ∙ ap (λ (o : ℕ). o + past t.arrival) before.offset

  next-unread : Unread t.arrival → next.halt ≡ true
  unfolding next on
  next-unread u = told_unread before.place.state before.place.offset t.arrival u

  pub stands_on : r ≡ Ok false → Stands run'
  stands_on e = record { arrivals = _; place = next; turns = next-turns; state = next-state; offset = next-offset; going = sym (next-halt false e) }

  pub ran_stopped : r ≡ Ok true → Ran (record { state = run'.deck.state; result = Ok tt })
  ran_stopped e = record { arrivals = _; last = next; turns = next-turns; state = next-state; stopped = λ _ _. sym (next-halt true e) }

  pub ran_failed : (f : Failure) → r ≡ Err f → Ran (record { state = run'.deck.state; result = Err f })
  ran_failed f e = record { arrivals = _; last = next; turns = next-turns; state = next-state; stopped = why f e }
    where
      why : (f : Failure) → r ≡ Err f → (◌≡◌ {A = Result (Unit {0}) Failure} (Err f) (Err Write) → ⊥) → (◌≡◌ {A = Result (Unit {0}) Failure} (Err f) (Err Records) → ⊥) → next.halt ≡ true
      why Read e a b = next-unread (t.unread.0 e)
      why Write e a b = absurd (a refl)
      why Records e a b = absurd (b refl)

pub ran_spent : (run : Run) → Stands run → Ran (record { state = run.deck.state; result = Err Records })
ran_spent run s = record { arrivals = s.arrivals; last = s.place; turns = s.turns; state = s.state; stopped = λ _ b. absurd (b refl) }

-- What was read and written on the way to where the run stands: the arrivals' bytes, and the text printed.
delivered_snoc : (xs : List Arrival) (a : Arrival) → delivered (xs ++ a ∷ []) ≡ delivered xs ++ bytes_of a
unfolding delivered
delivered_snoc [] a = append-nil (bytes_of a)
delivered_snoc (x ∷ xs) a = ap (λ (t : List ℕ). bytes_of x ++ t) (delivered_snoc xs a) ∙ sym (append_assoc (bytes_of x) (delivered xs) (bytes_of a))

unfailed_snoc : (xs : List Arrival) (a : Arrival) → Unfailed xs → (Unread a → ⊥) → Unfailed (xs ++ a ∷ [])
unfolding Unfailed
unfailed_snoc [] a u f = (f, tt)
unfailed_snoc (x ∷ xs) a (e, u) f = (e, unfailed_snoc xs a u f)

unfailed-last : (xs : List Arrival) (a : Arrival) → Unfailed (xs ++ a ∷ []) → Unread a → ⊥
unfolding Unfailed
unfailed-last [] a (f, u) = f
unfailed-last (x ∷ xs) a (e, u) = unfailed-last xs a u

pub record Keeps (input input' output output' : Option (List ℕ)) (turn : ℕ) (run : Run) : Type 0 where
  pub stands : Stands run
  pub count : length stands.arrivals ≡ turn
  pub read : Consumes input input' (delivered stands.arrivals)
  pub printed : Appends output output' stands.place.text
  pub unfailed : Unfailed stands.arrivals

pub keeps_start : (input output : Option (List ℕ)) (run : Run) → run.deck.state ≡ fresh → run.offset ≡ 0 → Keeps input input output output 0 run
unfolding stands-start start delivered Unfailed
keeps_start input output run s o = record { stands = stands-start run s o; count = refl; read = consumes_none input; printed = appends_none output; unfailed = tt }

-- no arrival comes after the run has stopped
turns-last : (w : Place) (xs : List Arrival) (v : Place) → Turns w xs v → w.halt ≡ true → (xs ≡ []) × (w ≡ v)
unfolding Turns
turns-last w [] v t h = (refl, t)
turns-last w (a ∷ xs) v (g, s, t) h = clash h g

-- a record after which the run goes on has all of its body
going_whole : (d : Deck) (k : ℕ) (body : List ℕ) (offset : ℕ) → (stepped d k body offset).halt ≡ false → body_length k ≤ length body
going_whole d k body offset h =
    elim (ℕ_discrete (deck_number d k body) 0) [
      | yes e ↦ whole_body d k body (passed d k body e).arrived
      | no e ↦ clash (ap (λ (s : Stepped). s.halt) (stepped_refused d k body offset e)) h
    ]

-- where the input ended in an arrival the run stops
pub ended-stops : (d : Deck) (offset : ℕ) (a : Arrival) → Arrives a → stop_of a ≡ Some Ended → (told d offset a).halt ≡ false → ⊥
unfolding told
ended-stops d offset (Whole r) here e h = cc
ended-stops d offset (Cut r Ended) here e h = omega (arith, here, going_whole d r.kind (body_of r) offset h)
ended-stops d offset (Cut r Failed) here e h = cc
ended-stops d offset (Nothing Ended) here e h = clash refl h
ended-stops d offset (Nothing Failed) here e h = cc

-- so that it did in none, while the run goes on
module _ (left : Option (List ℕ)) where
  going_end : (w : Place) (a : Arrival) (xs : List Arrival) (v : Place) → Arrives a → Turns (on w a) xs v → v.halt ≡ false → AtEnd left a
  unfolding on
  going_end w a xs v here t h e =
      absurd (ended-stops w.state w.offset a here e
      (false_from_ne_true _ (λ stopped. clash (ap (λ (v : Place). v.halt) (sym (turns-last (on w a) xs v t stopped).1) ∙ stopped) h)))

  all-going_end : (w : Place) (xs : List Arrival) (v : Place) → Turns w xs v → v.halt ≡ false → AllAtEnd left xs
  unfolding Turns AllAtEnd
  all-going_end w [] v t h = tt
  all-going_end w (a ∷ xs) v (g, here, t) h = (going_end w a xs v here t h, all-going_end (on w a) xs v t h)

  end_snoc : (xs : List Arrival) (a : Arrival) → AllAtEnd left xs → AtEnd left a → AllAtEnd left (xs ++ a ∷ [])
  unfolding AllAtEnd
  end_snoc [] a u f = (f, tt)
  end_snoc (x ∷ xs) a (e, u) f = (e, end_snoc xs a u f)

module _ (run : Run) (i i' i'' o o' o'' : Option (List ℕ)) (turn : ℕ) (run' : Run) (held text : List ℕ) (r : Result Bool Failure)
    (before : Keeps i i' o o' turn run) (t : Turned run i' i'' o' o'' run' held text r) where
  all-count : length (before.stands.arrivals ++ t.arrival ∷ []) ≡ turn + 1
  all-count = omega (arith, length-append before.stands.arrivals (t.arrival ∷ []), before.count)

  all-end : AllAtEnd i'' (before.stands.arrivals ++ t.arrival ∷ [])
  all-end = end_snoc i'' before.stands.arrivals t.arrival
      (all-going_end i'' start before.stands.arrivals before.stands.place before.stands.turns before.stands.going) t.end

  all-read : Consumes i i'' (delivered (before.stands.arrivals ++ t.arrival ∷ []))
  all-read = rw (delivered_snoc before.stands.arrivals t.arrival) (consumes_more i i' i'' _ _ before.read t.read)

  all_printed : (r ≡ Err Write → ⊥) → Appends o o'' (on before.stands.place t.arrival).text
  unfolding on
  all_printed w =
      appends_more o o' o'' _ _ before.printed
      (subst (λ (s : List ℕ). Appends o' o'' s)
      (ap₂ (λ (d : Deck) (o : ℕ). (told d o t.arrival).text) before.stands.state before.stands.offset) (t.printed w))

  all-unfailed : (r ≡ Err Read → ⊥) → Unfailed (before.stands.arrivals ++ t.arrival ∷ [])
  all-unfailed n = unfailed_snoc before.stands.arrivals t.arrival before.unfailed (λ u. n (t.unread.1 u))

  pub keeps_on : r ≡ Ok false → Keeps i i'' o o'' (turn + 1) run'
  unfolding stands_on next
  keeps_on e = record {
    stands = stands_on run i' i'' o' o'' run' held text r before.stands t e;
    count = all-count;
    read = all-read;
    printed = all_printed (λ w. cc);
    unfailed = all-unfailed (λ w. cc);
  }

  pub played_stopped : r ≡ Ok true → Played i i'' o o'' (record { state = run'.deck.state; result = Ok tt })
  unfolding ran_stopped next
  played_stopped e = record {
    ran = ran_stopped run i' i'' o' o'' run' held text r before.stands t e;
    read = all-read;
    end = all-end;
    printed = λ _. all_printed (λ w. cc);
    unread = (λ _. all-unfailed (λ w. cc), λ _ w. cc);
    spent = λ w. cc;
  }

  pub played_failed : (f : Failure) → r ≡ Err f → Played i i'' o o'' (record { state = run'.deck.state; result = Err f })
  unfolding ran_failed next
  played_failed f e = record {
    ran = ran_failed run i' i'' o' o'' run' held text r before.stands t f e;
    read = all-read;
    end = all-end;
    printed = λ n. all_printed (λ w. n (let same : f ≡ Write = cc in ap Err same));
    unread = (
      λ n. all-unfailed (λ w. n (let same : f ≡ Read = cc in ap Err same)),
      λ u w. unfailed-last before.stands.arrivals t.arrival u (t.unread.0 (let same : f ≡ Read = cc in e ∙ ap Err same)),
    );
    spent = λ w. absurd (t.lasts (let same : f ≡ Records = cc in e ∙ ap Err same));
  }

pub played_spent : (i i' o o' : Option (List ℕ)) (turn : ℕ) (run : Run) → Keeps i i' o o' turn run → turn ≡ turn_limit
    → Played i i' o o' (record { state = run.deck.state; result = Err Records })
unfolding ran_spent
played_spent i i' o o' turn run k all = record {
  ran = ran_spent run k.stands;
  read = k.read;
  end = all-going_end i' start k.stands.arrivals k.stands.place k.stands.turns k.stands.going;
  printed = λ _. k.printed;
  unread = (λ _. k.unfailed, λ _ w. cc);
  spent = λ _. (k.stands.going, k.count ∙ all);
}

-- one record of the definition's loop, `rest` being what follows its body
module _ (fuel offset : ℕ) (d : Deck) (k : ℕ) (body rest : List ℕ) (cut : take (body_length k) (body ++ rest) ≡ body) where
  stepping_stop : (stepped d k body offset).halt ≡ true
      → stepping (suc fuel) offset d (k ∷ (body ++ rest)) ≡ halted (stepped d k body offset).text (stepped d k body offset).state
  unfolding stepping follow
  stepping_stop h = rw (cut, h) refl

  stepping-on : (stepped d k body offset).halt ≡ false → drop (body_length k) (body ++ rest) ≡ rest
      → stepping (suc fuel) offset d (k ∷ (body ++ rest))
      ≡ before (stepped d k body offset).text (stepping fuel (offset + 1 + body_length k) (stepped d k body offset).state rest)
  unfolding stepping follow
  stepping-on h e = rw (cut, h, e) refl

-- from any place, with room for as many records as there are bytes
abbrev Same : Place → Place → Outcome → Type 0
Same w v o = (v.text ≡ w.text ++ o.text) × (v.state ≡ o.state)

-- an arrival that stops the run is the last
stop-same : (w : Place) (a : Arrival) (xs : List Arrival) (v : Place) (s : Stepped) (o : Outcome) → Turns (on w a) xs v → told w.state w.offset a ≡ s
    → s.halt ≡ true → (xs ≡ [] → o ≡ halted s.text s.state) → Same w v o
unfolding on halted
stop-same w a xs v s o t e h f =
    let (none, end) = turns-last (on w a) xs v t (ap (λ (s : Stepped). s.halt) e ∙ h) in (
      sym (ap (λ (v : Place). v.text) end) ∙ ap (λ (s : Stepped). w.text ++ s.text) e ∙ sym (ap (λ (o : Outcome). w.text ++ o.text) (f none)),
      sym (ap (λ (v : Place). v.state) end) ∙ ap (λ (s : Stepped). s.state) e ∙ sym (ap (λ (o : Outcome). o.state) (f none)),
    )

-- an arrival after which the run goes on, and then the rest
on_same : (w : Place) (a : Arrival) (v : Place) (s : Stepped) (o p : Outcome) → told w.state w.offset a ≡ s → o ≡ before s.text p → Same (on w a) v p → Same w v o
unfolding on before
on_same w a v s o p e f (text, state) = (
  text ∙ append_assoc w.text (told w.state w.offset a).text p.text ∙ ap (λ (s : Stepped). w.text ++ (s.text ++ p.text)) e
      ∙ sym (ap (λ (o : Outcome). w.text ++ o.text) f),
  state ∙ sym (ap (λ (o : Outcome). o.state) f),
)

-- an arrival that is stepped as a record of kind k with this body, ys being what follows the run
record Comes (w : Place) (a : Arrival) (k : ℕ) (body ys : List ℕ) : Type 0 where
  tells : told w.state w.offset a ≡ stepped w.state k body w.offset
  passes : past a ≡ 1 + body_length k
  gives : bytes_of a ≡ k ∷ body
  few : length body ≤ body_length k
  cuts : take (body_length k) (body ++ ys) ≡ body

-- the rest of a run, from any place, and then ys, which is nothing where the input ended
abbrev Rest : List ℕ → List Arrival → Type 0
Rest ys xs = (fuel : ℕ) (w v : Place) → Turns w xs v → v.halt ≡ true → w.halt ≡ false → Unfailed xs → AllAtEnd (Some ys) xs
    → length (delivered xs ++ ys) < fuel → Same w v (stepping fuel w.offset w.state (delivered xs ++ ys))

module _ (ys : List ℕ) (xs : List Arrival) (fuel : ℕ) (w v : Place) where
  module _ (a : Arrival) (k : ℕ) (body : List ℕ) (c : Comes w a k body ys) (t : Turns (on w a) xs v) (h : v.halt ≡ true) (u : Unfailed xs)
      (end : AllAtEnd (Some ys) xs) (l : length (delivered (a ∷ xs) ++ ys) < suc fuel) where
    s : Stepped
    s = stepped w.state k body w.offset

    arrives : (zs : List Arrival) → delivered (a ∷ zs) ++ ys ≡ k ∷ (body ++ (delivered zs ++ ys))
    unfolding delivered
    arrives zs =
        ap (λ (l : List ℕ). (l ++ delivered zs) ++ ys) c.gives
        ∙ ap (λ (l : List ℕ). k ∷ l) (append_assoc body (delivered zs) ys)

    record_same : Rest ys xs → (q : Bool) → s.halt ≡ q → Same w v (stepping (suc fuel) w.offset w.state (delivered (a ∷ xs) ++ ys))
    unfolding s
    record_same ih true q =
        let bare : delivered [] ++ ys ≡ ys = unfold delivered in refl in
        let cut : take (body_length k) (body ++ (delivered [] ++ ys)) ≡ body =
        ap (λ (t : List ℕ). take (body_length k) (body ++ t)) bare ∙ c.cuts in
        stop-same w a xs v s _ t c.tells q
        (λ none. ap (stepping (suc fuel) w.offset w.state) (arrives xs ∙ ap (λ (xs : List Arrival). k ∷ (body ++ (delivered xs ++ ys))) none)
        ∙ stepping_stop fuel w.offset w.state k body (delivered [] ++ ys) cut q)
    record_same ih false q =
        let rest : List ℕ = delivered xs ++ ys in
        let whole : length body ≡ body_length k = omega (arith, c.few, going_whole w.state k body w.offset q) in
        let cut : take (body_length k) (body ++ rest) ≡ body = ap (λ (n : ℕ). take n (body ++ rest)) (sym whole) ∙ take-append_seam body rest in
        let left : drop (body_length k) (body ++ rest) ≡ rest = ap (λ (n : ℕ). drop n (body ++ rest)) (sym whole) ∙ drop-append_seam body rest in
        let next : w.offset + 1 + body_length k ≡ (on w a).offset = unfold on in omega (arith, c.passes) in
        let state : s.state ≡ (on w a).state = unfold on in sym (ap (λ (s : Stepped). s.state) c.tells) in
        let going : (on w a).halt ≡ false = unfold on in ap (λ (s : Stepped). s.halt) c.tells ∙ q in
        on_same w a v s (stepping (suc fuel) w.offset w.state (delivered (a ∷ xs) ++ ys)) (stepping fuel (on w a).offset (on w a).state rest) c.tells
        (ap (stepping (suc fuel) w.offset w.state) (arrives xs)
        ∙ stepping-on fuel w.offset w.state k body rest cut q left
        ∙ ap₂ (λ (o : ℕ) (d : Deck). before s.text (stepping fuel o d rest)) next state)
        (ih fuel (on w a) v t h going u end
        (omega (arith, l, ap length (arrives xs), length-append body rest)))

turns-stepping : (ys : List ℕ) (xs : List Arrival) → Rest ys xs
unfolding Turns Unfailed AllAtEnd told past
turns-stepping ys [] fuel w v t h g u end l = clash (ap (λ (w : Place). w.halt) t ∙ h) g
turns-stepping ys (a ∷ xs) zero w v t h g u end l = absurd (omega arith)
turns-stepping ys (Whole r ∷ xs) (suc fuel) w v (_, e, t) h g (read, u) (last, end) l =
    let cut : take (body_length r.kind) (body_of r ++ ys) ≡ body_of r =
    ap (λ (n : ℕ). take n (body_of r ++ ys)) (sym e) ∙ take-append_seam (body_of r) ys in
    record_same ys xs fuel w v (Whole r) r.kind (body_of r)
    (record { tells = refl; passes = refl; gives = refl; few = omega (arith, e); cuts = cut }) t h u end l (turns-stepping ys xs) _ refl
turns-stepping ys (Cut r Ended ∷ xs) (suc fuel) w v (_, e, t) h g (read, u) (last, end) l =
    let cut : take (body_length r.kind) (body_of r ++ ys) ≡ body_of r =
    ap (λ (ys : List ℕ). take (body_length r.kind) (body_of r ++ ys)) (last refl)
    ∙ ap (take (body_length r.kind)) (append-nil (body_of r))
    ∙ take_all (body_length r.kind) (body_of r) (omega (arith, e)) in
    record_same ys xs fuel w v (Cut r Ended) r.kind (body_of r)
    (record { tells = refl; passes = refl; gives = refl; few = omega (arith, e); cuts = cut }) t h u end l (turns-stepping ys xs) _ refl
turns-stepping ys (Cut r Failed ∷ xs) (suc fuel) w v t h g (read, u) end l = absurd (read refl)
turns-stepping ys (Nothing Ended ∷ xs) (suc fuel) w v (_, e, t) h g (read, u) (last, end) l =
    let stop : stepping (suc fuel) w.offset w.state (delivered [] ++ []) ≡ halted (line end_word []) w.state = unfold stepping delivered in refl in
    let none : delivered (Nothing Ended ∷ xs) ≡ delivered xs = unfold delivered in refl in
    stop-same w (Nothing Ended) xs v _ _ t refl refl
    (λ bare. ap (stepping (suc fuel) w.offset w.state) (ap₂ (λ (d ys : List ℕ). d ++ ys) (none ∙ ap delivered bare) (last refl)) ∙ stop)
turns-stepping ys (Nothing Failed ∷ xs) (suc fuel) w v t h g (read, u) end l = absurd (read refl)

pub turns-whole : (xs : List Arrival) (ys : List ℕ) (v : Place) → Turns start xs v → v.halt ≡ true → Unfailed xs → AllAtEnd (Some ys) xs
    → (v.text ≡ (deck (delivered xs ++ ys)).text) × (v.state ≡ (deck (delivered xs ++ ys)).state)
unfolding start
turns-whole xs ys v t h u end =
    rw (← deck-stepping (suc (length (delivered xs ++ ys))) (delivered xs ++ ys) (omega arith))
    (turns-stepping ys xs (suc (length (delivered xs ++ ys))) start v t h refl u end (omega arith))

-- where nothing follows, nothing is left
bare_end : (xs : List Arrival) → AllAtEnd (Some []) xs
unfolding AllAtEnd
bare_end [] = tt
bare_end (a ∷ xs) = (λ _. refl, bare_end xs)

pub turns-deck : (xs : List Arrival) (v : Place) → Turns start xs v → v.halt ≡ true → Unfailed xs
    → (v.text ≡ (deck (delivered xs)).text) × (v.state ≡ (deck (delivered xs)).state)
turns-deck xs v t h u = rw append-nil at (turns-whole xs [] v t h u (bare_end xs))

pub played-deck : (xs ys held now : List ℕ) (r : Ending) → Played (Some xs) (Some ys) (Some held) (Some now) r → r.result ≡ Ok tt
    → (bs : List ℕ) × (xs ≡ bs ++ ys) × (now ≡ held ++ (deck bs).text) × (r.state ≡ (deck bs).state)
    × (now ≡ held ++ (deck xs).text) × (r.state ≡ (deck xs).state)
played-deck xs ys held now r p fine =
    let stopped : p.ran.last.halt ≡ true = p.ran.stopped (λ e. cc) (λ e. cc) in
    let unfailed = p.unread.0 (λ e. cc) in
    let run = turns-deck p.ran.arrivals p.ran.last p.ran.turns stopped unfailed in
    let whole = turns-whole p.ran.arrivals ys p.ran.last p.ran.turns stopped unfailed p.end in
    let printed : now ≡ held ++ p.ran.last.text = p.printed (λ e. cc) in (
      delivered p.ran.arrivals,
      p.read,
      printed ∙ ap (λ (t : List ℕ). held ++ t) run.0,
      p.ran.state ∙ run.1,
      printed ∙ ap (λ (t : List ℕ). held ++ t) (whole.0 ∙ ap (λ (bs : List ℕ). (deck bs).text) (sym p.read)),
      p.ran.state ∙ whole.1 ∙ ap (λ (bs : List ℕ). (deck bs).state) (sym p.read),
    )
