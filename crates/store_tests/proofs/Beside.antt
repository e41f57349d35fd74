-- What leaves a store beside its service.
use Rattle.std.proofs.Common.{◌≡◌, ℕ, List, [], ◌∷◌, length, sym, ap, subst, ◌∙◌}
use Rattle.nfs2_types.specs.declared.Limits.{Limits}
use Rattle.server_trait.specs.Tree.{Server}
use Rattle.server_trait.specs.declared.bench.ConfTable.{ConfTable}
use Rattle.abs_model.specs.declared.Entry.{Entry}
use Rattle.conf_map.specs.Stands.{StandValid, HasRoom, StandsValid}
use Rattle.conf_map.specs.Notice.{NoticedAll}
use Rattle.cow_checkpoint.specs.Store.{Store, notices}
use Rattle.store_tests.specs.Beside.{IsReady, IsBeside}

pub ready_stands : {limits : Limits} {server : Server} {table : ConfTable} → IsReady limits server table →
    (A : List Entry) × StandValid server.tree table A
ready_stands {limits} h = (
  h.array,
  record {
    limits = limits;
    within = h.within;
    valid = h.stands.valid;
    stands = h.stands.stands;
    tallied = h.stands.tallied;
  },
)

pub ready_rows : {limits : Limits} {server : Server} {table : ConfTable} → IsReady limits server table →
    length table.rows.items ≡ 16
ready_rows h = h.stands.stands.size ∙ h.stands.valid.size ∙ h.entries

-- where tree and limits stay
pub ready_still : (limits : Limits) (old new : Server) (table : ConfTable) → new.tree ≡ old.tree →
    new.limits ≡ old.limits → IsReady limits old table → IsReady limits new table
ready_still limits old new table same most h = record {
  within = h.within;
  entries = h.entries;
  room = subst (HasRoom limits) (sym most) h.room;
  array = h.array;
  stands = subst (λ t. StandsValid limits t table h.array) (sym same) h.stands;
}

pub beside_still : (limits : Limits) (old new : Server) (table : ConfTable) (place : ℕ) (store store' : Store) →
    new.tree ≡ old.tree → new.limits ≡ old.limits → store'.size ≡ store.size → store'.taken ≡ store.taken →
    IsBeside limits old table place store → IsBeside limits new table place store'
beside_still limits old new table place store store' same most size taken h = record {
  ready = ready_still limits old new table same most h.ready;
  size = size ∙ h.size;
  taken = taken ∙ h.taken;
}

-- notices leave the number of texts, and the place of the newest checkpoint taken
pub size_told : (A : List Entry) (told : List ℕ) (s t : Store) →
    NoticedAll (λ (s : Store) B i t. t ≡ notices B i s) A s told t → t.size ≡ s.size
size_told A [] s t h = ap (λ (x : Store). x.size) h
size_told A (i ∷ told) s t (next, notice, rest) =
    size_told A told next t rest ∙ ap (λ (x : Store). x.size) notice

pub taken_told : (A : List Entry) (told : List ℕ) (s t : Store) →
    NoticedAll (λ (s : Store) B i t. t ≡ notices B i s) A s told t → t.taken ≡ s.taken
taken_told A [] s t h = ap (λ (x : Store). x.taken) h
taken_told A (i ∷ told) s t (next, notice, rest) =
    taken_told A told next t rest ∙ ap (λ (x : Store). x.taken) notice
