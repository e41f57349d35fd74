-- What a turn of a run comes to.
use Rattle.std.proofs.Common.{◌≡◌, ◌⊎◌, inl, inr, ℕ, zero, suc, ◌+◌, ◌*◌, List, [], ◌∷◌, ◌++◌, length, Option, None, Result, Ok, Err, refl, sym, ap, subst, ◌∙◌}
use Rattle.std.proofs.lemmas.List.{append-nil}
use Rattle.nfs2_types.specs.declared.Limits.{Limits}
use Rattle.server_trait.specs.Tree.{Server}
use Rattle.server_trait.specs.declared.ConfTable.{ConfTable}
use Rattle.server_trait.specs.declared.FaultPoint.{FaultPoint}
use Rattle.log_format.specs.declared.Event.{Event}
use Rattle.xdr_core.specs.Items.{item_in}
use Rattle.xdr_core.specs.Grammar.{item_at}
use Rattle.xdr_cut.specs.Cut.{front_at}
use Rattle.log_format.specs.Records.{event_plan, record_at}
use Rattle.log_format.specs.Spelling.{record_len}
use Rattle.log_stream.specs.declared.ReadErr.{ReadErr}
use Rattle.log_stream.specs.declared.ReadErr.TheVariants as read
use Rattle.log_stream.specs.Reading.{Reads}
use Rattle.outside.specs.declared.SinkErr.TheVariants as sink
use Rattle.cluster_model.specs.declared.Request.{Request}
use Rattle.cluster_model.specs.Good.{FitsEvent}
use Rattle.seats.specs.Positions.{AreLater}
use Rattle.cluster.specs.OverBench.{Kept}
use Rattle.cluster.specs.Steps.{asked_by}
use Rattle.basefs.specs.declared.run_err.RunErr.{RunErr}
use Rattle.basefs.specs.declared.run_err.RunErr.TheVariants as run
use Rattle.basefs.specs.declared.status.Status.{Status}
use Rattle.basefs.specs.declared.status.Status.TheVariants as status
use Rattle.basefs.specs.declared.verdict.Verdict.TheVariants as verdict
use Rattle.basefs.specs.declared.turn.Turn.TheVariants as turns
use Rattle.basefs.specs.Log.{Log, stops, behind_last, judge, records_from}
use Rattle.basefs.specs.Setting.{Setting, setting}
use Rattle.basefs.specs.Run.{IsPrefix, HoldsOf, Says, Ends, Ran}
use Rattle.basefs.specs.Going.{Goes, Going, Turns, FinishSays, Finishes, read_status, run_status}
use Rattle.basefs.specs.Turns.{Stepped, Written}
use Rattle.service_laws.specs.Served.{service}
use Rattle.service_laws.proofs.Fits.{record_numbers, numbers_fit}
use Rattle.basefs.proofs.Records.{records_zero, records_none}
use Rattle.basefs.proofs.Taking.{Ends-then, Goes-then, HoldsOf-always, over_read, over_wrong, over_waits, over_memory, one_goes, last_goes, over_finish, over_most}
use Rattle.basefs.proofs.Stepped.{here_more, text_more, ran_here, ran_short, cut_here, cut_whole, printed_all, printed_part, appended_all}

-- A WRITE THAT FAILS

none_left : (f servers : ℕ) → record_at f servers [] ≡ None
unfolding front_at event_plan item_at item_in
none_left f servers = refl

-- no bytes are no records
pub nothing_more : (n f servers : ℕ) (q : List Request) (place : ℕ) → (records_from n f servers q place []).events ≡ []
nothing_more zero f servers q place = ap (λ (l : Log). l.events) (records_zero f servers q place [])
nothing_more (suc n) f servers q place = ap (λ (l : Log). l.events) (records_none n f servers q place [] (none_left f servers))

module _ {old left : Option (List ℕ)} {log rest : List ℕ → Log} {events : List Event} where
  front_of : (p : Goes old left log rest events) → HoldsOf log p.taken left (λ l. IsPrefix events l.events)
  front_of p = HoldsOf-always log p.taken left (λ l. IsPrefix events l.events) (λ more. ((rest more).events, ap (λ (l : Log). l.events) (p.goes more)))

  pub front_says : (w : RunErr) (p : Goes old left log rest events) → Says (run_status w) log p.taken left events
  front_says (run.Sink sink.Failed) p = front_of p
  front_says (run.Sink sink.NoMemory) p = front_of p
  front_says run.NoMemory p = front_of p

  -- these records were stepped, and a write failed
  abbrev pub ends_at_write : (w : RunErr) → Goes old left log rest events → Ends old left log (run_status w) events
  ends_at_write w p = record { taken = p.taken; consumed = p.consumed; says = front_says w p }

  -- nothing was read behind them
  pub unread_at_write : (p : Goes old left log rest events) → (rest []).events ≡ [] → (log p.taken).events ≡ events
  unread_at_write p none =
      ap (λ (t : List ℕ). (log t).events) (sym (append-nil p.taken)) ∙ ap (λ (l : Log). l.events) (p.goes []) ∙ ap (λ (t : List Event). events ++ t) none ∙ append-nil events

read_no_write : (e : ReadErr) (at : ℕ) → read_status e at ≡ status.WriteFault → ⊥
read_no_write read.Failed at e = let f : status.ReadFault ≡ status.WriteFault = e in cc
read_no_write read.NoMemory at e = let f : status.NoMemory ≡ status.WriteFault = e in cc
read_no_write read.Wrong at e = let f : status.BadLog at ≡ status.WriteFault = e in cc

finish_no_write : {old left : Option (List ℕ)} {place : ℕ} {f : Status} → Finishes old left place f → f ≡ status.WriteFault → ⊥
finish_no_write {left = left} {place = place} p e = subst (λ (s : Status). FinishSays s place p.taken left) e p.says

-- WHERE A RUN STOPS

module _ {X : Type 0} {state : X → Server} where
  -- the run stops, and nothing was stepped
  pub stops_here : {limits : Limits} {log : List ℕ → Log} {old : Setting X} {left left' held : Option (List ℕ)}
      {servers : List X} {tables : List ConfTable} {downs : List FaultPoint} {kept : Kept} {n place : ℕ} {s : Status} →
      Going state limits log old (setting left held servers tables downs) kept n place →
      (s ≡ status.WriteFault → ⊥) →
      Ends left left' (records_from n limits.f (length old.servers) kept.requests place) s [] →
      Ran state limits log old (setting left' held servers tables downs) s
  stops_here {log = log} {old = old} {left' = left'} {s = s} g differs ends =
      ran_here g.here (subst (Ends old.left left' log s) (append-nil g.events) (Ends-then g.goes ends))
      (λ e. absurd (differs e)) (printed_all s g.printed) (cut_whole g.here)

  -- no more records are read
  pub stops_most : {limits : Limits} {log : List ℕ → Log} {old : Setting X} {left held : Option (List ℕ)}
      {servers : List X} {tables : List ConfTable} {downs : List FaultPoint} {kept : Kept} {place : ℕ} →
      Going state limits log old (setting left held servers tables downs) kept 0 place →
      Ran state limits log old (setting left held servers tables downs) (status.BadLog place)
  stops_most {limits = limits} {old = old} {left = left} {kept = kept} {place = place} g =
      stops_here g (λ e. let f : status.BadLog place ≡ status.WriteFault = e in cc)
      (over_most left limits.f (length old.servers) kept.requests place)

  -- no record was read
  pub turn_read : {l : Limits} {left left' held : Option (List ℕ)} {servers : List X} {tables : List ConfTable}
      {downs : List FaultPoint} {kept : Kept} {place : ℕ} {e : ReadErr} → l ≡ kept.limits →
      Reads (record_at l.f (length servers)) (λ (x : Event). x) left left' (Err e) →
      Turns state (setting left held servers tables downs) (setting left' held servers tables downs) kept kept place
      (turns.Over (read_status e place))
  turn_read {left = left} {left' = left'} {servers = servers} {kept = kept} {place = place} {e = e} is r
      limits log old n g =
      stops_here g (read_no_write e place)
      (over_read n limits.f (length old.servers) kept.requests place
      (subst (λ (k : ℕ). Reads (record_at limits.f k) (λ (y : Event). y) left left' (Err e)) g.here.later.size
      (subst (λ (x : Limits). Reads (record_at x.f (length servers)) (λ (y : Event). y) left left' (Err e))
      (is ∙ g.here.limits_are) r)))

module _ {X : Type 0} (state : X → Server) (l : Limits) (left left' held : Option (List ℕ)) (servers : List X)
    (tables : List ConfTable) (downs : List FaultPoint) (kept : Kept) (place : ℕ) (e : Event) (kept_l : l ≡ kept.limits)
    (r : Reads (record_at l.f (length servers)) (λ (x : Event). x) left left' (Ok e)) where
  abbrev Before : Limits → (List ℕ → Log) → Setting X → ℕ → Type 0
  Before limits log old n = Going state limits log old (setting left held servers tables downs) kept n place

  module _ (limits : Limits) (log : List ℕ → Log) (old : Setting X) (n : ℕ) where
    -- the record, as the limits of the run have it
    taken_by : Before limits log old n →
        Reads (record_at limits.f (length old.servers)) (λ (x : Event). x) left left' (Ok e)
    taken_by g =
        subst (λ (k : ℕ). Reads (record_at limits.f k) (λ (y : Event). y) left left' (Ok e)) g.here.later.size
        (subst (λ (x : Limits). Reads (record_at x.f (length servers)) (λ (y : Event). y) left left' (Ok e))
        (kept_l ∙ g.here.limits_are) r)

    -- it fits
    fits_by : Before limits log old n → FitsEvent (service limits) e
    fits_by g =
        let t = taken_by g in
        numbers_fit limits e (record_numbers limits.f (length old.servers) (t.taken ++ []) [] e (t.outcome []))

  pub turn_wrong : judge kept.requests e ≡ verdict.Wrong →
      Turns state (setting left held servers tables downs) (setting left' held servers tables downs) kept kept place
      (turns.Over (status.BadLog place))
  turn_wrong j limits log old n g =
      stops_here g (λ e. let f : status.BadLog place ≡ status.WriteFault = e in cc)
      (over_wrong n limits.f (length old.servers) kept.requests place (taken_by limits log old (suc n) g)
      j)

  pub turn_waits : judge kept.requests e ≡ verdict.Waits →
      Turns state (setting left held servers tables downs) (setting left' held servers tables downs) kept kept place
      (turns.Over (status.NotBuilt place))
  turn_waits j limits log old n g =
      stops_here g (λ e. let f : status.NotBuilt place ≡ status.WriteFault = e in cc)
      (over_waits n limits.f (length old.servers) kept.requests place (taken_by limits log old (suc n) g)
      j)

  module _ (held' : Option (List ℕ)) (servers' : List X) (tables' : List ConfTable) (downs' : List FaultPoint)
      (kept' : Kept) (later : AreLater state (3 * kept.limits.f + 1) servers servers') where
    since : (limits : Limits) (log : List ℕ → Log) (old : Setting X) (n : ℕ) → Before limits log old n →
        AreLater state (3 * limits.f + 1) servers servers'
    since limits log old n g =
        subst (λ (x : Limits). AreLater state (3 * x.f + 1) servers servers') g.here.limits_are later

    -- a record was stepped, and its lines were written
    pub turn_goes : (x : Unit) → judge kept.requests e ≡ verdict.Goes →
        Written state kept kept' servers servers' tables tables' downs downs' held held' e (Ok x) →
        Turns state (setting left held servers tables downs) (setting left' held' servers' tables' downs') kept kept'
        place (turns.Goes (place + record_len e))
    turn_goes x j w limits log old n g =
        let fits = fits_by limits log old (suc n) g in
        let more = since limits log old (suc n) g in
        record {
          events = g.events ++ e ∷ [];
          goes = subst (λ (q : List Request). Goes old.left left' log
              (records_from n limits.f (length old.servers) q (place + record_len e)) (g.events ++ e ∷ []))
              (sym w.steps.requests)
              (Goes-then g.goes (one_goes n limits.f (length old.servers) kept.requests place
              (taken_by limits log old (suc n) g) j));
          here = here_more g.here w.steps fits more;
          printed = appended_all old.held _ g.printed w.writes (text_more g.here w.steps fits more);
        }

    wrote_part : (limits : Limits) (log : List ℕ → Log) (old : Setting X) (n : ℕ) (f : RunErr)
        (rest : List ℕ → Log) → (rest []).events ≡ [] → (g : Before limits log old (suc n)) →
        Goes left left' (records_from (suc n) limits.f (length old.servers) kept.requests place) rest
        (e ∷ []) →
        Written state kept kept' servers servers' tables tables' downs downs' held held' e (Err f) →
        Ran state limits log old (setting left' held' servers' tables' downs') (run_status f)
    wrote_part limits log old n f rest none g goes w =
        let all = Goes-then g.goes goes in
        let fits = fits_by limits log old (suc n) g in
        let more = since limits log old (suc n) g in
        ran_here (here_more g.here w.steps fits more) (ends_at_write f all)
        (λ e. unread_at_write all none)
        (printed_part _ g.printed w.writes (text_more g.here w.steps fits more))
        (cut_here g.here w.steps fits more w.writes.part)

    wanted : (limits : Limits) (log : List ℕ → Log) (old : Setting X) (n : ℕ) → downs' ≡ downs → held' ≡ held →
        Before limits log old n →
        Ran state limits log old (setting left' held' servers' tables' downs') status.NoMemory
    wanted limits log old n d h g =
        subst (λ (x : List FaultPoint). Ran state limits log old (setting left' held' servers' tables' x)
        status.NoMemory) (sym d)
        (subst (λ (x : Option (List ℕ)). Ran state limits log old (setting left' x servers' tables' downs)
        status.NoMemory) (sym h)
        (ran_short g.here (since limits log old n g)
        (subst (Ends old.left left' log status.NoMemory) (append-nil g.events) (Ends-then g.goes (over_memory limits.f
        (length old.servers) (records_from n limits.f (length old.servers) kept.requests place)
        (taken_by limits log old n g))))
        (printed_all status.NoMemory g.printed) (cut_whole g.here)))

    err_is : (f : RunErr) (x : Result Unit RunErr) → x ≡ Err f → x ≡ Err run.NoMemory →
        run_status f ≡ status.NoMemory
    err_is f x h k = let same : f ≡ run.NoMemory = cc in ap run_status same

    -- a record was stepped, or memory wanted, and its lines were not all written
    pub turn_failed : (f : RunErr) →
        (judge kept.requests e ≡ verdict.Goes) ⊎ (judge kept.requests e ≡ verdict.Ends) →
        Stepped state kept kept' servers servers' tables tables' downs downs' held held' e (Err f) →
        Turns state (setting left held servers tables downs) (setting left' held' servers' tables' downs') kept kept'
        place (turns.Over (run_status f))
    turn_failed f (inl j) (inl w) limits log old n g =
        wrote_part limits log old n f
        (records_from n limits.f (length old.servers) (kept.requests ++ asked_by e) (place + record_len e))
        (nothing_more n limits.f (length old.servers) (kept.requests ++ asked_by e) (place + record_len e)) g
        (one_goes n limits.f (length old.servers) kept.requests place (taken_by limits log old (suc n) g)
        j) w
    turn_failed f (inr j) (inl w) limits log old n g =
        wrote_part limits log old n f (λ more. stops (behind_last (place + record_len e) more))
        refl g
        (last_goes n limits.f (length old.servers) kept.requests place (taken_by limits log old (suc n) g)
        j) w
    turn_failed f j (inr w) limits log old n g =
        subst (Ran state limits log old (setting left' held' servers' tables' downs')) (sym (err_is f _ refl w.is))
        (wanted limits log old (suc n) w.downs_stay w.held_stay g)

    -- the last record was stepped, its lines were written, and what stands behind it was looked at
    pub turn_ends : (x : Unit) (left'' : Option (List ℕ)) (f : Status) → judge kept.requests e ≡ verdict.Ends →
        Written state kept kept' servers servers' tables tables' downs downs' held held' e (Ok x) →
        Finishes left' left'' (place + record_len e) f →
        Turns state (setting left held servers tables downs) (setting left'' held' servers' tables' downs') kept kept'
        place (turns.Over f)
    turn_ends x left'' f j w finish limits log old n g =
        let fits = fits_by limits log old (suc n) g in
        let more = since limits log old (suc n) g in
        let here = here_more g.here w.steps fits more in
        ran_here here
        (subst (Ends old.left left'' log f) (append-nil (g.events ++ e ∷ []))
        (Ends-then (Goes-then g.goes (last_goes n limits.f (length old.servers) kept.requests place
        (taken_by limits log old (suc n) g) j))
        (over_finish (place + record_len e) finish)))
        (λ e. absurd (finish_no_write finish e))
        (printed_all f (appended_all old.held _ g.printed w.writes (text_more g.here w.steps fits more)))
        (cut_whole here)

-- what was stepped was not wanted
pub not_wanted : {X : Type 0} {state : X → Server} {kept kept' : Kept} {servers servers' : List X}
    {tables tables' : List ConfTable} {downs downs' : List FaultPoint} {held held' : Option (List ℕ)} {e : Event}
    {x : Unit} → Stepped state kept kept' servers servers' tables tables' downs downs' held held' e (Ok x) →
    Written state kept kept' servers servers' tables tables' downs downs' held held' e (Ok x)
not_wanted (inl w) = w
not_wanted {x = x} (inr w) = absurd (let h : Ok x ≡ Err run.NoMemory = w.is in cc)
