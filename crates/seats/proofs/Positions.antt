-- Claims on positions of a bench, over a write at one of them.
use Rattle.std.proofs.Common.{◌≡◌, ℕ, ◌<◌, List, Some, Option, Result, Ok, Err, IfOk, length, get_or, slice_get, slice_set, refl, subst}
use Rattle.std.specs.Prelude.{OnOk}
use Rattle.std.proofs.lemmas.List.{length-set}
use Rattle.std.proofs.lemmas.Option.{slice_get_within, slice_get_read, slice_get-get_or}
use Rattle.nfs2_types.specs.declared.Limits.{Limits}
use Rattle.abs_model.specs.declared.Entry.{Entry}
use Rattle.server_trait.specs.Tree.{Server}
use Rattle.server_trait.specs.declared.ConfTable.{ConfTable}
use Rattle.server_trait.specs.declared.WrapErr.{WrapErr}
use Rattle.server_trait.proofs.TreeLaws.{some_same}
use Rattle.conf_map.specs.Stands.{StandsValid}
use Rattle.conf_map.specs.Notice.{Watched}
use Rattle.conf_map.proofs.InStep.{slice_get-set_other, slice_get-set_same}
use Rattle.cluster_model.specs.declared.Request.{Request}
use Rattle.replica.specs.Passed.{Passed, Skipped}
use Rattle.replica.specs.declared.running.Cast.{Cast}
use Rattle.replica.specs.declared.running.Replica.{Replica}
use Rattle.seats.specs.Positions.{StandsAt, ChangesAt, WatchedAt, PassedAt, SkippedAt}

pub changes_set : {X : Type 0} (xs : List X) (r : ℕ) (v : X) → ChangesAt r xs (slice_set xs r v)
changes_set xs r v = record { size = length-set xs r v; others = λ k ne. slice_get-set_other xs r k v ne }

pub changes_none : {X : Type 0} (r : ℕ) (xs : List X) → ChangesAt r xs xs
changes_none r xs = record { size = refl; others = λ k ne. refl }

-- what is read at a place of the list is what stands there
read_at : {X : Type 0} (xs : List X) (r : ℕ) (x y : X) → slice_get xs r ≡ Some y → x ≡ get_or xs r x →
    slice_get xs r ≡ Some x
read_at xs r x y at is = slice_get_read xs (length xs) r x refl (slice_get_within xs r y at) is

-- a list, what is read at a place of it, and what is written there
module _ {X : Type 0} (state : X → Server) (xs : List X) (tables : List ConfTable) (r : ℕ) (limits : Limits)
    {A₀ : List Entry} (h₀ : StandsAt state limits (slice_get xs r) (slice_get tables r) A₀) (x v : X)
    (t w : ConfTable) (is_x : x ≡ get_or xs r x) (is_t : t ≡ get_or tables r t) where
  pub here_x : slice_get xs r ≡ Some x
  here_x = read_at xs r x h₀.server h₀.is_server is_x

  pub here_t : slice_get tables r ≡ Some t
  here_t = read_at tables r t h₀.table h₀.is_table is_t

  pub there_x : slice_get (slice_set xs r v) r ≡ Some v
  there_x = slice_get-set_same xs r v x here_x

  pub there_t : slice_get (slice_set tables r w) r ≡ Some w
  there_t = slice_get-set_same tables r w t here_t

  -- what was read stands for each array that the position stands for
  pub stands_read : (A : List Entry) → StandsAt state limits (slice_get xs r) (slice_get tables r) A →
      StandsValid limits (state x).tree t A
  stands_read A s = subst (λ y. StandsValid limits (state y).tree t A) (some_same s.is_server here_x)
      (subst (λ u. StandsValid limits (state s.server).tree u A) (some_same s.is_table here_t) s.stands)

  pub stands_here : StandsValid limits (state x).tree t A₀
  stands_here = stands_read A₀ h₀

  -- the position stands for an array for which what is written stands
  pub stands_written : (A : List Entry) → StandsValid limits (state v).tree w A →
      StandsAt state limits (slice_get (slice_set xs r v) r) (slice_get (slice_set tables r w) r) A
  stands_written A h = record { server = v; table = w; is_server = there_x; is_table = there_t; stands = h }

  pub watched_at : {T : Type 0} {result : Result T WrapErr} → Watched (state x) (state v) result →
      WatchedAt state (slice_get xs r) (slice_get (slice_set xs r v) r) result
  watched_at h = record { before = x; after = v; is_before = here_x; is_after = there_x; watched = h }

  pub passed_at : (result : Result Cast WrapErr) (q : Request) (k k' : Replica) →
      IfOk result (λ cast. Passed limits q.time q.bytes (state x).tree (state v).tree t w k k' cast) →
      IfOk result (λ cast. PassedAt state limits q (slice_get xs r) (slice_get tables r)
      (slice_get (slice_set xs r v) r) (slice_get (slice_set tables r w) r) k k' cast)
  passed_at (Ok cast) q k k' h = record {
    step = λ A s. (let out = h.step A (stands_read A s) in (stands_written _ out.0, out.1, out.2));
  }
  passed_at (Err e) q k k' h = tt

  pub skipped_at : (result : Result (Option (List ℕ)) WrapErr) (k k' : Replica) →
      IfOk result (λ o. Skipped limits (state x).tree (state v).tree t k k' o) →
      IfOk result (λ o. SkippedAt state limits (slice_get xs r) (slice_get tables r) (slice_get (slice_set xs r v) r)
      (slice_get tables r) k k' o)
  skipped_at (Ok o) k k' h = record {
    step = λ A s. (
        let out = h.step A (stands_read A s) in
        (record { server = v; table = t; is_server = there_x; is_table = here_t; stands = out.0 }, out.1));
    root_word = h.root_word;
  }
  skipped_at (Err e) k k' h = tt

-- a position that begins
module _ {X : Type 0} (state : X → Server) (xs : List X) (tables : List ConfTable) (r : ℕ) (in_x : r < length xs)
    (in_t : r < length tables) (x v : X) (t w : ConfTable) (is_x : x ≡ get_or xs r x) where
  first_x : slice_get xs r ≡ Some x
  first_x = slice_get_read xs (length xs) r x refl in_x is_x

  pub fresh_watched : {T : Type 0} {result : Result T WrapErr} → Watched (state x) (state v) result →
      WatchedAt state (slice_get xs r) (slice_get (slice_set xs r v) r) result
  fresh_watched h = record {
    before = x;
    after = v;
    is_before = first_x;
    is_after = slice_get-set_same xs r v x first_x;
    watched = h;
  }

  pub fresh_stands : {R : Type 0} (limits : Limits) (A : List Entry) (result : Result R WrapErr) →
      OnOk result (StandsValid limits (state v).tree w A) →
      OnOk result (StandsAt state limits (slice_get (slice_set xs r v) r) (slice_get (slice_set tables r w) r) A)
  fresh_stands limits A (Ok k) h = record {
    server = v;
    table = w;
    is_server = slice_get-set_same xs r v x first_x;
    is_table = slice_get-set_same tables r w (get_or tables r t) (slice_get-get_or tables r t in_t);
    stands = h;
  }
  fresh_stands limits A (Err e) h = tt
