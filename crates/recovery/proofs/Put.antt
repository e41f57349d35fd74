-- The changed array has the texts that were got in its place, and so it has the root that was aimed at.
use Rattle.std.proofs.Common.{◌≡◌, ℕ, suc, ◌+◌, ◌^◌, ◌<◌, Bool, true, false, cond, List, [], ◌∷◌, length, map, All, get_or, set, refl, sym, ap, subst, ◌∙◌, arith}
use Rattle.std.specs.Prelude.{Option, None, Some, ◌==◌, ◌&&◌}
use Rattle.std.specs.List.Sorted.{IsStrictlyIncreasing}
use Rattle.std.proofs.lemmas.Bool.{eqb-true, eq-eqb}
use Rattle.std.proofs.lemmas.List.{length-set, get_or-set_same, get_or-set_other}
use Rattle.std.proofs.lemmas.List.Elements.{All-head, All-tail}
use Rattle.std.proofs.lemmas.List.Kept.{AllPairs-from_increasing}
use Rattle.std.proofs.lemmas.Option.{slice_get-get_or}
use Rattle.sha2.specs.Sha256.{sha256}
use Rattle.nfs2_types.specs.declared.Word.TheVariants.{Silent}
use Rattle.abs_model.specs.declared.Change.{Change}
use Rattle.abs_model.specs.declared.Entry.{Entry}
use Rattle.abs_model.specs.Array.{changed, entry_at, null_entry}
use Rattle.abs_text.specs.Text.{entry_text, node_text, node_parts}
use Rattle.cluster_model.specs.Service.{Service}
use Rattle.cluster_model.specs.Tree as tree
use Rattle.cluster_model.specs.State.{lookup_item, or_else}
use Rattle.cluster_model.specs.Loose.{IsPut}
use Rattle.cluster_model.specs.Walk.{IsWholeWalk}
use Rattle.cluster_model.proofs.RootedWalks.{walk_root}
use Rattle.partition_tree.specs.Digests.{IsRoot}
use Rattle.partition_tree.proofs.Places.{same_levels}
use Rattle.replica.specs.Replicas.{digests_from, digests_of}
use Rattle.replica.proofs.EmptyArray.{length-digests_from}
use Rattle.state_transfer.specs.Fetch.{begun}
use Rattle.state_transfer.specs.Got.{HasGot, change_texts, entries_got}
use Rattle.state_transfer.proofs.Gathered.{texts_gathered}
use Rattle.state_transfer.proofs.Rising.{changes_rise}
use Rattle.state_transfer.proofs.Reals.{digests_same}
use Rattle.state_transfer.proofs.Walks.{Gots, fetch_walks}
use Rattle.recovery.specs.Rebuilt.{Rebuilt, from_start, HasFetched}
use Rattle.recovery.specs.Real.{HasRealTexts}

abbrev indexes : List Change → List ℕ
indexes cs = map (λ (c : Change). c.index) cs

-- Each text at its index

-- what lies below all changed indexes has no text among theirs
none_for : (i : ℕ) (cs : List Change) → All (λ j. i < j) (indexes cs) →
    lookup_item (tree.item 0 i) (change_texts cs) ≡ None
none_for i [] low = refl
none_for i (c ∷ cs) low =
    by (none_for i cs (All-tail (λ j. i < j) c.index (indexes cs) low)) (c.index == i) refl
  where
    by : lookup_item (tree.item 0 i) (change_texts cs) ≡ None → (b : Bool) → (c.index == i) ≡ b →
        cond b (Some (entry_text c.index c.entry)) (lookup_item (tree.item 0 i) (change_texts cs)) ≡ None
    by rest true e =
        let same = eqb-true c.index i e in
        let less = All-head (λ j. i < j) c.index (indexes cs) low in
        absurd (omega (arith, same, less))
    by rest false e = rest

below_rest : (c : Change) (cs : List Change) → IsStrictlyIncreasing (indexes (c ∷ cs)) →
    All (λ j. c.index < j) (indexes cs)
below_rest c cs rise k d low =
    AllPairs-from_increasing (indexes (c ∷ cs)) rise 0 (suc k) d (omega arith) (omega (arith, low))

rest_rises : (c : Change) (cs : List Change) → IsStrictlyIncreasing (indexes (c ∷ cs)) →
    IsStrictlyIncreasing (indexes cs)
rest_rises c cs rise k low =
    let e : suc k + 1 ≡ suc (k + 1) = omega arith in
    subst (λ (n : ℕ). get_or (indexes cs) k 0 < get_or (c.index ∷ indexes cs) n 0) e
    (rise (suc k) (omega (arith, low)))

pub length-changed : (cs : List Change) (A : List Entry) → length (changed cs A) ≡ length A
length-changed [] A = refl
length-changed (c ∷ cs) A = length-changed cs (set A c.index c.entry) ∙ length-set A c.index c.entry

-- one change more, where the later ones have this text for the index
change_more : (c : Change) (A : List Entry) (i : ℕ) (later : Option (List ℕ)) → i < length A →
    (c.index ≡ i → later ≡ None) → (b : Bool) → (c.index == i) ≡ b →
    or_else later (entry_text i (entry_at (set A c.index c.entry) i))
    ≡ or_else (cond b (Some (entry_text c.index c.entry)) later) (entry_text i (entry_at A i))
change_more c A i later low none true e =
    let same : c.index ≡ i = eqb-true c.index i e in
    let here : entry_at (set A c.index c.entry) i ≡ c.entry
    = ap (λ (k : ℕ). get_or (set A k c.entry) i null_entry) same ∙ get_or-set_same A i c.entry null_entry low in
    ap (λ (o : Option (List ℕ)). or_else o (entry_text i (entry_at (set A c.index c.entry) i))) (none same)
    ∙ ap (entry_text i) here ∙ ap (λ (k : ℕ). entry_text k c.entry) (sym same)
change_more c A i later low none false e =
    ap (λ (x : Entry). or_else later (entry_text i x)) (get_or-set_other A c.index i c.entry null_entry
    (λ same. let t : (c.index == i) ≡ true = eq-eqb c.index i (sym same) in
    let bad : true ≡ false = sym t ∙ e in absurd (cc)))

text_changed : (cs : List Change) (A : List Entry) (i : ℕ) → i < length A → IsStrictlyIncreasing (indexes cs) →
    entry_text i (entry_at (changed cs A) i)
    ≡ or_else (lookup_item (tree.item 0 i) (change_texts cs)) (entry_text i (entry_at A i))
text_changed [] A i low rise = refl
text_changed (c ∷ cs) A i low rise =
    text_changed cs (set A c.index c.entry) i (let e = length-set A c.index c.entry in omega (arith, low, e))
    (rest_rises c cs rise)
    ∙ change_more c A i (lookup_item (tree.item 0 i) (change_texts cs)) low
    (λ same. none_for i cs (subst (λ (k : ℕ). All (λ j. k < j) (indexes cs)) same (below_rest c cs rise)))
    (c.index == i) refl

-- nodes that were got are no entries
only_entries : (i : ℕ) (got : Gots) →
    lookup_item (tree.item 0 i) (entries_got got) ≡ lookup_item (tree.item 0 i) got
only_entries i [] = refl
only_entries i (g ∷ got) = by (g.0.level == 0) refl (only_entries i got)
  where
    by : (b : Bool) → (g.0.level == 0) ≡ b →
        lookup_item (tree.item 0 i) (entries_got got) ≡ lookup_item (tree.item 0 i) got →
        lookup_item (tree.item 0 i) (cond b (g ∷ entries_got got) (entries_got got))
        ≡ cond ((g.0.level == 0) && (g.0.number == i)) (Some g.1) (lookup_item (tree.item 0 i) got)
    by true e rest = ap (λ (o : Option (List ℕ)).
        cond ((g.0.level == 0) && (g.0.number == i)) (Some g.1) o) rest
    by false e rest = rest
        ∙ ap (λ (b : Bool). cond (b && (g.0.number == i)) (Some g.1) (lookup_item (tree.item 0 i) got)) (sym e)

-- For a service with these texts

module _ (A : List Entry) (got : Gots) (b : Rebuilt) (h : HasFetched A got b) where
  abbrev after : List Entry
  after = changed b.fetch.changes A

  gathered : change_texts b.fetch.changes ≡ entries_got got
  gathered = texts_gathered (from_start b) got b.fetch h.leads

  rising : IsStrictlyIncreasing (indexes b.fetch.changes)
  rising = changes_rise b.fetch.own b.fetch.place b.fetch.levels b.root got b.fetch h.leads

  -- the text of each entry afterwards
  pub text_after : (i : ℕ) → i < length A → entry_text i (entry_at after i)
      ≡ or_else (lookup_item (tree.item 0 i) got) (entry_text i (entry_at A i))
  text_after i low =
      text_changed b.fetch.changes A i low rising
      ∙ ap (λ (o : Option (List ℕ)). or_else o (entry_text i (entry_at A i)))
      (ap (lookup_item (tree.item 0 i)) gathered ∙ only_entries i got)

  module _ (S : Service) (real : HasRealTexts S) where
    text_here : (B : List Entry) (i : ℕ) → i < length B → tree.text_of S B i ≡ entry_text i (entry_at B i)
    text_here B i low =
        ap (tree.entry_text S i) (slice_get-get_or B i null_entry low) ∙ real.text i (entry_at B i)

    digests_here : (i : ℕ) (es : List Entry) → tree.digests_from S i es ≡ digests_from i es
    digests_here i [] = refl
    digests_here i (e ∷ es) = λ j.
        (real.nodes.digest (S.text i e) ∙ ap sha256 (real.text i e)) j ∷ digests_here (suc i) es j

    pub is_put : IsPut S A got after
    is_put = record {
      as_long = length-changed b.fetch.changes A;
      texts = λ i low.
          let size = length-changed b.fetch.changes A in
          text_here after i (omega (arith, low, size)) ∙ text_after i low
          ∙ ap (or_else (lookup_item (tree.item 0 i) got)) (sym (text_here A i low));
    }

    -- its root, in a tree of as many levels as the service has
    pub root_after : length A ≡ 16 ^ S.levels → b.fetch.stand.rest ≡ [] → tree.root S after ≡ b.root
    root_after size none =
        let many : length (digests_of A) ≡ length A = length-digests_from 0 A in
        let levels : b.fetch.levels ≡ S.levels
        = same_levels b.fetch.levels S.levels (sym h.size ∙ ap length h.own ∙ many ∙ size) in
        let own : b.fetch.own ≡ tree.digests S A = h.own ∙ sym (digests_here 0 A) in
        let run = subst (λ (l : ℕ). HasGot (begun b.fetch.own b.fetch.place l b.root) got b.fetch) levels h.leads in
        let walks = fetch_walks S real.nodes b.fetch.own b.fetch.place b.root got b.fetch run in
        let whole = subst (λ (ds : List (List ℕ)). IsWholeWalk S ds S.levels ((0, b.root) ∷ []) got) own
        (walks.2.0 none) in
        walk_root S A after b.root got size is_put whole walks.1

-- a service with these texts, over so many levels
abbrev of_texts : ℕ → Service
of_texts levels = record {
  f = 0;
  k = 0;
  empty = [];
  next = λ a r. a;
  word = λ a r. Silent;
  told = λ a r. [];
  saving = λ a is. [];
  text = entry_text;
  digest = sha256;
  levels = levels;
  node = node_text;
  parts = node_parts;
  fits = λ r. Unit {0};
  good = λ a. Unit {0};
  scratched = λ a i at bytes. None;
}

real_texts : (levels : ℕ) → HasRealTexts (of_texts levels)
real_texts levels = record {
  text = λ i e. refl;
  nodes = record { digest = λ t. refl; node = λ l k ds. refl; parts = λ t. refl };
}

-- the root of its digests
pub has_root : (A : List Entry) (got : Gots) (b : Rebuilt) → HasFetched A got b → b.fetch.stand.rest ≡ [] →
    IsRoot (digests_of (changed b.fetch.changes A)) b.root
has_root A got b h none levels size =
    let S = of_texts levels in
    let real = real_texts levels in
    let after = changed b.fetch.changes A in
    let many : length A ≡ 16 ^ levels = sym (length-changed b.fetch.changes A)
    ∙ sym (length-digests_from 0 after) ∙ size in
    sym (root_after A got b h S real many none)
    ∙ ap (λ (ds : List (List ℕ)). tree.digest_at S ds levels 0) (digests_here A got b h S real 0 after)
    ∙ digests_same S real.nodes (digests_of after) levels 0
