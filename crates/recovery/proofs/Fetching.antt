-- What a replica that is being rebuilt has got.
use Rattle.std.proofs.Common.{◌≡◌, ℕ, zero, suc, ◌^◌, Bool, true, false, cond, List, [], ◌∷◌, ◌++◌, length, Option, None, Some, Result, Ok, Err, refl, sym, ap, subst, ◌∙◌}
use Rattle.std.specs.Prelude.{IfOk, OnErr, IsSome, is_some, not}
use Rattle.std.proofs.lemmas.Slice.Eq.{bytes_eq-Decides}
use Rattle.nfs2_types.specs.declared.NoMemory.{NoMemory}
use Rattle.abs_model.specs.declared.Entry.{Entry}
use Rattle.cluster_model.specs.Tree as tree
use Rattle.partition_tree.specs.Digests.{IsRoot, digest_at}
use Rattle.partition_tree.proofs.Places.{same_levels}
use Rattle.state_transfer.specs.declared.item.Item.{Item}
use Rattle.state_transfer.specs.declared.item.Taken.{Taken}
use Rattle.state_transfer.specs.declared.item.Taken.TheVariants.{Good, Wrong}
use Rattle.state_transfer.specs.Stand.{Own, Stand, differing, settled, begins, next_in}
use Rattle.state_transfer.specs.Fetch.{Fetch, Takes, IsAnswer, IsBegun, begun}
use Rattle.state_transfer.specs.Got.{HasGot}
use Rattle.state_transfer.proofs.Walks.{Pair, Gots}
use Rattle.replica.specs.Replicas.{digests_of}
use Rattle.recovery.specs.Rebuilt.{Rebuilt, from_start, HasFetched, Begins, retargeted, with_item}

-- one text more
pub got_more : (f : Fetch) (got : Gots) (g h : Fetch) (x : Pair) (xs : List Pair) (text : List ℕ) → HasGot f got g →
    g.stand.rest ≡ x ∷ xs → Takes x text g h → HasGot f (got ++ (tree.item g.stand.level x.0, text) ∷ []) h
got_more f [] g h x xs text same rest takes = (
  x,
  xs,
  h,
  ap (λ (k : Fetch). k.stand.rest) (sym same) ∙ rest,
  ap (λ (k : Fetch). tree.item k.stand.level x.0) same,
  subst (λ (k : Fetch). Takes x text k h) same takes,
  refl,
)
got_more f (y ∷ got) g h x xs text k rest takes =
    (k.0, k.1, k.2, k.3, k.4, k.5, got_more k.2 got g h x xs text k.6 rest takes)

-- what is next, of some that are wanted at a level
abbrev next_of : ℕ → List Pair → Option Item
next_of level rest = elim rest [ [] ↦ None | x ∷ xs ↦ Some (record { level = level; number = x.0 }) ]

some_next : (s : Stand) → s.rest ≡ [] → IsSome (next_in s) → ⊥
some_next s none some =
    let bad : false ≡ true = sym (ap (λ (o : Option Item). is_some o) (ap (next_of s.level) none)) ∙ some in cc

-- with nothing next, nothing is wanted
pub none_left : (s : Stand) → next_in s ≡ None → s.rest ≡ []
none_left s none = by s.rest refl
  where
    by : (rest : List Pair) → s.rest ≡ rest → s.rest ≡ []
    by [] e = e
    by (x ∷ xs) e = absurd (
        let bad : next_of s.level (x ∷ xs) ≡ None = sym (ap (next_of s.level) e) ∙ none in
        let worse : Some (record { level = s.level; number = x.0 }) ≡ None = bad in cc)

-- good bytes are a text for what was next
pub accepted : (A : List Entry) (got : Gots) (old new : Rebuilt) (bytes : List ℕ) (r : Result Taken NoMemory) →
    new.root ≡ old.root → IsSome (next_in old.fetch.stand) → IfOk r (IsAnswer bytes old.fetch new.fetch) →
    r ≡ Ok Good → HasFetched A got old → HasFetched A (with_item got (next_in old.fetch.stand) bytes) new
accepted A got old new bytes r root some answer good h = by old.fetch.stand.rest refl
  where
    by : (rest : List Pair) → old.fetch.stand.rest ≡ rest →
        HasFetched A (with_item got (next_in old.fetch.stand) bytes) new
    by [] e = absurd (some_next old.fetch.stand e some)
    by (x ∷ xs) e =
        let all = subst (λ (r : Result Taken NoMemory). IfOk r (IsAnswer bytes old.fetch new.fetch)) good answer in
        let takes : Takes x bytes old.fetch new.fetch = all x xs e in
        let same = takes.same in
        let start : from_start new ≡ from_start old
        = λ i. begun (same.0 i) (same.1 i) (same.2 i) (root i) in
        let more = got_more (from_start old) got old.fetch new.fetch x xs bytes h.leads e takes in
        let next : next_in old.fetch.stand ≡ Some (record { level = old.fetch.stand.level; number = x.0 })
        = ap (next_of old.fetch.stand.level) e in
        subst (λ (o : Option Item). HasFetched A (with_item got o bytes) new) (sym next) (record {
          own = same.0 ∙ h.own;
          size = ap length same.0 ∙ h.size ∙ ap (λ (n : ℕ). 16 ^ n) (sym same.2);
          leads = subst (λ (f : Fetch). HasGot f (got ++ (tree.item old.fetch.stand.level x.0, bytes) ∷ []) new.fetch)
              (sym start) more;
        })

-- as many digests as before
pub sound_after : (f g : Fetch) (bytes : List ℕ) (r : Result Taken NoMemory) → length f.own ≡ 16 ^ f.levels →
    IsSome (next_in f.stand) → IfOk r (IsAnswer bytes f g) → OnErr r (g ≡ f) → length g.own ≡ 16 ^ g.levels
sound_after f g bytes (Ok Good) sound some answer err = by f.stand.rest refl
  where
    by : (rest : List Pair) → f.stand.rest ≡ rest → length g.own ≡ 16 ^ g.levels
    by [] e = absurd (some_next f.stand e some)
    by (x ∷ xs) e =
        let same = (answer x xs e).same in
        ap length same.0 ∙ sound ∙ ap (λ (n : ℕ). 16 ^ n) (sym same.2)
sound_after f g bytes (Ok Wrong) sound some answer err =
    subst (λ (h : Fetch). length h.own ≡ 16 ^ h.levels) (sym answer.0) sound
sound_after f g bytes (Err e) sound some answer err =
    subst (λ (h : Fetch). length h.own ≡ 16 ^ h.levels) (sym err) sound

-- the same, where what was there is seen otherwise
pub accepted_seen : (A : List Entry) (got : Gots) (old seen new : Rebuilt) (bytes : List ℕ) (r : Result Taken NoMemory) →
    seen ≡ old → new.root ≡ seen.root → IsSome (next_in old.fetch.stand) →
    IfOk r (IsAnswer bytes seen.fetch new.fetch) → r ≡ Ok Good → HasFetched A got old →
    HasFetched A (with_item got (next_in old.fetch.stand) bytes) new
accepted_seen A got old seen new bytes r view root some answer good h =
    accepted A got old new bytes r (root ∙ ap (λ (b : Rebuilt). b.root) view) some
    (subst (λ (b : Rebuilt). IfOk r (IsAnswer bytes b.fetch new.fetch)) view answer) good h

-- a target is one place
pub same_place : (b seen : Rebuilt) (at place : ℕ) → seen ≡ b → seen.target ≡ Some at → b.target ≡ Some place →
    at ≡ place
same_place b seen at place view target aimed =
    let same : Some at ≡ Some place = sym target ∙ ap (λ (k : Rebuilt). k.target) view ∙ aimed in cc

-- what is handed back is as the first, towards the same place, with nothing got
pub back_is : (b seen back : Rebuilt) (own : List (List ℕ)) (at place : ℕ) → seen ≡ b →
    length seen.fetch.own ≡ 16 ^ seen.fetch.levels → own ≡ seen.fetch.own → seen.target ≡ Some at →
    back ≡ record { target = Some at; root = seen.root; fetch = begun own at back.fetch.levels seen.root } →
    length own ≡ 16 ^ back.fetch.levels → b.target ≡ Some place → back ≡ retargeted place b.root b
back_is b seen back own at place view sound mine target begins size aimed =
    let levels : back.fetch.levels ≡ seen.fetch.levels
    = same_levels back.fetch.levels seen.fetch.levels (sym size ∙ ap length mine ∙ sound) in
    let same = same_place b seen at place view target aimed in
    let anew : back ≡ retargeted place seen.root seen = begins ∙ (λ i. record {
      target = Some (same i);
      root = seen.root;
      fetch = begun (mine i) (same i) (levels i) seen.root;
    }) in
    anew ∙ ap (λ (k : Rebuilt). retargeted place k.root k) view

-- At the beginning nothing is missing

settled_none : (l : ℕ) → next_in (settled l [] []) ≡ None
settled_none zero = refl
settled_none (suc l) = settled_none l

none_differs : (own : Own) (level : ℕ) (root : List ℕ) → root ≡ own level 0 →
    differing own level ((0, root) ∷ []) ≡ []
none_differs own level root e =
    ap (λ (b : Bool). cond (not b) ((0, root) ∷ []) []) ((bytes_eq-Decides (own level 0) root).1 (sym e))

pub nothing_missing : (own : Own) (levels : ℕ) (root : List ℕ) → root ≡ own levels 0 →
    next_in (begins own levels root) ≡ None
nothing_missing own levels root e =
    ap (λ (xs : List Pair). next_in (settled levels xs [])) (none_differs own levels root e) ∙ settled_none levels

pub begun_over : (A : List Entry) (own : List (List ℕ)) (root : List ℕ) (f : Fetch) → IsRoot own root →
    IsBegun own 0 root f → own ≡ digests_of A → Begins A (record { target = None; root = root; fetch = f })
begun_over A own root f top b is =
    let same : f ≡ begun own 0 f.levels root = b.is in
    let mine : f.own ≡ own = ap (λ (k : Fetch). k.own) same in
    let start : begun own 0 f.levels root ≡ begun f.own f.place f.levels root
    = λ i. begun (sym mine i) (sym (ap (λ (k : Fetch). k.place) same) i) f.levels root in
    record {
      target = refl;
      fetched = record { own = mine ∙ is; size = ap length mine ∙ b.size; leads = same ∙ start };
      none = ap (λ (k : Fetch). next_in k.stand) same
          ∙ nothing_missing (digest_at own) f.levels root (top f.levels b.size);
    }
