-- What an answer over a server and its table does: the machine's step, on whatever array they stand for.
use Rattle.std.specs.Prelude.{◌≡◌, ◌++◌, ℕ, List, Option}
use Rattle.nfs2_types.specs.declared.Limits.{Limits}
use Rattle.nfs2_types.specs.declared.Word.{Word}
use Rattle.abs_model.specs.declared.Entry.{Entry}
use Rattle.abs_model.specs.Valid.{Valid}
use Rattle.server_trait.specs.Tree.{Tree}
use Rattle.server_trait.specs.declared.ConfTable.{ConfTable}
use Rattle.conf_map.specs.Stands.{Stands}
use Rattle.conf_map.specs.Tallied.{Tallied}
use Rattle.conf_map.specs.Notice.{NoticedAll}
use Rattle.dispatch.specs.Answer.{Answer}

-- An answer is given: its word is said, tree and table stand for its array, which is valid, the table's tally is
-- right, and its objects are told.
pub record Answers {M : Type 0} (told_of : M → List ℕ) (noticed : M → List Entry → ℕ → M → Type 0)
    (limits : Limits) (A : List Entry) (a : Answer)
    (word : Word) (tree : Option Tree) (table : ConfTable) (old new : M) : Type 0 where
  pub word_is : word ≡ a.word
  pub stands : Stands tree table a.array
  pub valid : Valid limits a.array
  pub tallied : Tallied table a.array
  pub told : told_of new ≡ told_of old ++ a.told
  pub notices : NoticedAll noticed A old a.told new
