-- Where the source tells its bytes, the status is that of the log that they are.
use Rattle.std.proofs.Common.{◌≡◌, ℕ, List, [], ◌++◌, Option, Some, None, refl, sym, ap, subst, ◌∙◌, inl, inr, ◌⊎◌}
use Rattle.std.specs.Prelude.{IfSome}
use Rattle.std.specs.Io.KnownBytes.{Consumes}
use Rattle.std.proofs.lemmas.List.{append-nil}
use Rattle.server_trait.specs.Tree.{Server}
use Rattle.log_format.specs.declared.Event.{Event}
use Rattle.basefs.specs.declared.status.Status.{Status}
use Rattle.basefs.specs.declared.status.Status.TheVariants as status
use Rattle.basefs.specs.Log.{Log, log_of}
use Rattle.basefs.specs.Run.{Says, Ends, status_of, IsFault}
use Rattle.basefs.specs.Setting.{Setting}
use Rattle.basefs.specs.Replayed.{Replayed}

says_exactly : (log : List ℕ → Log) (s : Status) (bytes taken rest : List ℕ) (events : List Event) → bytes ≡ taken ++ rest → Says s log taken (Some rest) events → (s ≡ status_of (log bytes).stop) ⊎ IsFault s
says_exactly log status.Done bytes taken rest events e h =
    let all : bytes ≡ taken = e ∙ ap (λ (t : List ℕ). taken ++ t) h.1 ∙ append-nil taken in
    inl (sym (ap status_of (ap (λ (t : List ℕ). (log t).stop) all ∙ ap (λ (l : Log). l.stop) h.0)))
says_exactly log (status.BadLog at) bytes taken rest events e h = inl (sym (ap status_of (ap (λ (t : List ℕ). (log t).stop) e ∙ ap (λ (l : Log). l.stop) h.1)))
says_exactly log (status.NotBuilt at) bytes taken rest events e h = inl (sym (ap status_of (ap (λ (t : List ℕ). (log t).stop) e ∙ ap (λ (l : Log). l.stop) h.1)))
says_exactly log (status.TooFewServers have need) bytes taken rest events e h = inl (sym (ap status_of (ap (λ (t : List ℕ). (log t).stop) e ∙ ap (λ (l : Log). l.stop) h.1)))
says_exactly log (status.ServerTooSmall server) bytes taken rest events e h = inl (sym (ap status_of (ap (λ (t : List ℕ). (log t).stop) e ∙ ap (λ (l : Log). l.stop) h.1)))
says_exactly log status.ReadFault bytes taken rest events e h = inr (inl refl)
says_exactly log status.WriteFault bytes taken rest events e h = inr (inr (inl refl))
says_exactly log status.NoMemory bytes taken rest events e h = inr (inr (inr refl))
says_exactly log status.Usage bytes taken rest events e h = absurd h
says_exactly log status.LinkFault bytes taken rest events e h = absurd h

told : (old left : Option (List ℕ)) (log : List ℕ → Log) (s : Status) (taken : List ℕ) (events : List Event) → Consumes old left taken → Says s log taken left events → IfSome old (λ bytes. (s ≡ status_of (log bytes).stop) ⊎ IsFault s)
told None left log s taken events c h = tt
told (Some bytes) None log s taken events c h = absurd c
told (Some bytes) (Some rest) log s taken events c h = says_exactly log s bytes taken rest events c h

ends_exactly : (old left : Option (List ℕ)) (log : List ℕ → Log) (s : Status) (events : List Event) → Ends old left log s events → IfSome old (λ bytes. (s ≡ status_of (log bytes).stop) ⊎ IsFault s)
ends_exactly old left log s events p = told old left log s p.taken events p.consumed p.says

ends_no_usage : (old left : Option (List ℕ)) (log : List ℕ → Log) (s : Status) (events : List Event) → Ends old left log s events → s ≡ status.Usage → ⊥
ends_no_usage old left log s events p e = subst (λ (t : Status). Says t log p.taken left events) e p.says

module _ {X : Type 0} (state : X → Server) (old new : Setting X) (s : Status) where
  abbrev log : List ℕ → Log
  log = log_of (λ x. (state x).limits) old.servers

  pub replayed_exactly : Replayed state old new s →
      IfSome old.left (λ bytes. (s ≡ status_of (log_of (λ x. (state x).limits) old.servers bytes).stop) ⊎ IsFault s)
  replayed_exactly (inl h) = ends_exactly old.left new.left log s [] h.stopped.ends
  replayed_exactly (inr h) = ends_exactly old.left new.left log s h.ran.events h.ran.ends

  -- a replay is no wrong command
  pub replayed_no_usage : Replayed state old new s → s ≡ status.Usage → ⊥
  replayed_no_usage (inl h) e = ends_no_usage old.left new.left log s [] h.stopped.ends e
  replayed_no_usage (inr h) e = ends_no_usage old.left new.left log s h.ran.events h.ran.ends e
