-- Texts with those that a whole fetch got in their place have the root aimed at: the model's law of whole walks, for
-- an array of files whose bytes are the texts.
use Rattle.std.proofs.Common.{◌≡◌, ℕ, zero, suc, ◌+◌, ◌^◌, ◌<◌, List, [], ◌∷◌, length, map, All, refl, sym, ap, subst, ◌∙◌, arith}
use Rattle.std.specs.Prelude.{Option, None, Some, slice_get}
use Rattle.sha2.specs.Sha256.{sha256}
use Rattle.nfs2_types.specs.declared.Word.TheVariants.{Silent}
use Rattle.abs_model.specs.declared.Entry.{Entry}
use Rattle.abs_model.specs.declared.Object.TheVariants.{File}
use Rattle.abs_model.specs.Objects.{zero_attr, bytes_of}
use Rattle.abs_text.specs.Text.{node_text, node_parts}
use Rattle.cluster_model.specs.Service.{Service}
use Rattle.cluster_model.specs.Tree as tree
use Rattle.cluster_model.specs.State.{lookup_item, or_else}
use Rattle.cluster_model.specs.Loose.{IsPut}
use Rattle.cluster_model.specs.Walk.{IsWholeWalk}
use Rattle.cluster_model.proofs.RootedWalks.{walk_root}
use Rattle.partition_tree.specs.Digests.{digests, digest_at}
use Rattle.state_transfer.specs.Stand.{begins}
use Rattle.state_transfer.specs.Fetch.{Fetch, begun}
use Rattle.state_transfer.specs.Got.{IsReal, HasGot, fetched_from, fetched}
use Rattle.state_transfer.proofs.Reals.{digests_same}
use Rattle.state_transfer.proofs.Walks.{Gots, run_of, whole, formed}

-- a service whose entries are files, each with its bytes for its text
abbrev of_files : ℕ → Service
of_files levels = record {
  f = 0;
  k = 0;
  empty = [];
  next = λ a r. a;
  word = λ a r. Silent;
  told = λ a r. [];
  saving = λ a is. [];
  text = λ i e. bytes_of e;
  digest = sha256;
  levels = levels;
  node = node_text;
  parts = node_parts;
  fits = λ r. Unit {0};
  good = λ a. Unit {0};
  scratched = λ a i at bytes. None;
}

real_files : (levels : ℕ) → IsReal (of_files levels)
real_files levels = record { digest = λ t. refl; node = λ l k ds. refl; parts = λ t. refl }

abbrev file : List ℕ → Entry
file t = record { generation = 0; object = File zero_attr t }

abbrev files : List (List ℕ) → List Entry
files ts = map file ts

files_digests : (levels i : ℕ) (ts : List (List ℕ)) → tree.digests_from (of_files levels) i (files ts) ≡ digests ts
files_digests levels i [] = refl
files_digests levels i (t ∷ ts) = ap (λ ds. sha256 t ∷ ds) (files_digests levels (suc i) ts)

files_many : (ts : List (List ℕ)) → length (files ts) ≡ length ts
files_many [] = refl
files_many (t ∷ ts) = ap suc (files_many ts)

fetched_many : (i : ℕ) (got : Gots) (ts : List (List ℕ)) → length (fetched_from i got ts) ≡ length ts
fetched_many i got [] = refl
fetched_many i got (t ∷ ts) = ap suc (fetched_many (suc i) got ts)

text_put : (levels j : ℕ) (got : Gots) (ts : List (List ℕ)) (k i n : ℕ) → n ≡ k + i → i < length (files ts) →
    tree.entry_text (of_files levels) j (slice_get (files (fetched_from k got ts)) i) ≡
    or_else (lookup_item (tree.item 0 n) got) (tree.entry_text (of_files levels) j (slice_get (files ts) i))
text_put levels j got [] k i n e lt = absurd (omega (arith, lt))
text_put levels j got (t ∷ ts) k zero n e lt =
    let same : k ≡ n = omega (arith, e) in
    ap (λ (m : ℕ). or_else (lookup_item (tree.item 0 m) got) t) same
text_put levels j got (t ∷ ts) k (suc i) n e lt =
    text_put levels j got ts (suc k) i n (omega (arith, e)) (omega (arith, lt))

pub root_fetched : (texts : List (List ℕ)) (levels place : ℕ) (root : List ℕ) → length texts ≡ 16 ^ levels →
    (got : Gots) (end : Fetch) → HasGot (begun (digests texts) place levels root) got end → end.stand.rest ≡ [] →
    digest_at (digests (fetched got texts)) levels 0 ≡ root
root_fetched texts levels place root size got end h none =
    let S = of_files levels in
    let real = real_files levels in
    let before = files texts in
    let after = files (fetched got texts) in
    let run = run_of (begun (digests texts) place levels root) got end h in
    let own : tree.digests S before ≡ digests texts = files_digests levels 0 texts in
    let walk : IsWholeWalk S (digests texts) levels ((0, root) ∷ []) got
    = whole S real (digests texts) end.stand none levels ((0, root) ∷ []) got run in
    let walk_files : IsWholeWalk S (tree.digests S before) levels ((0, root) ∷ []) got
    = subst (λ ds. IsWholeWalk S ds levels ((0, root) ∷ []) got) (sym own) walk in
    let forms = formed S real (digests texts) end.stand (begins (digest_at (digests texts)) levels root) got run in
    let put : IsPut S before got after = record {
      as_long = files_many (fetched got texts) ∙ fetched_many 0 got texts ∙ sym (files_many texts);
      texts = λ i lt. text_put levels i got texts 0 i i (omega arith) lt;
    } in
    let done : tree.root S after ≡ root = walk_root S before after root got (files_many texts ∙ size) put walk_files forms in
    sym (digests_same S real (digests (fetched got texts)) levels 0)
    ∙ ap (λ ds. tree.digest_at S ds levels 0) (sym (files_digests levels 0 (fetched got texts)))
    ∙ done
