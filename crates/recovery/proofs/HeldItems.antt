-- What a store holds of an item is what the model's replica holds of it.
use Rattle.std.proofs.Common.{◌≡◌, ◌≢◌, ℕ, zero, suc, ◌-◌, ◌^◌, ◌<◌, Bool, true, false, cond, List, [], ◌∷◌, length, All, refl, sym, ap, subst, ◌∙◌, arith}
use Rattle.std.specs.Prelude.{Option, None, Some, ◌==◌, ◌&&◌, ◌||◌, ◌↔◌, nat_lt, IfSome, IsSome, IsSomeAnd}
use Rattle.std.proofs.lemmas.Bool.{lt-ltb}
use Rattle.std.proofs.lemmas.List.Elements.{All-head, All-tail}
use Rattle.std.proofs.lemmas.Option.{slice_get-get_or}
use Rattle.abs_model.specs.declared.Entry.{Entry}
use Rattle.abs_model.specs.Array.{entry_at, null_entry}
use Rattle.abs_text.specs.Text.{entry_text}
use Rattle.cluster_model.specs.Service.{Service}
use Rattle.cluster_model.specs.Tree as tree
use Rattle.cluster_model.specs.State.{Checkpoint, Running, holds_in, held_from}
use Rattle.cluster_model.specs.Fair.{IsItem}
use Rattle.cluster_model.specs.Loose.{held_digests, node_held, text_held, held_item}
use Rattle.cow_checkpoint.specs.Store.{Store, held_text, HasNode, IsNodeText}
use Rattle.cow_checkpoint.proofs.Model.{nodes_same}
use Rattle.partition_tree.specs.Digests.{IsNode, node_at}
use Rattle.recovery.specs.Real.{HasRealTexts}
use Rattle.recovery.specs.Served.{IsHeldItem}

abbrev OfLength : ℕ → List Checkpoint → Type 0
OfLength n holds = All (λ (c : Checkpoint). length c.digests ≡ n) holds

both_true : (a b : Bool) (x y : Option (List ℕ)) → b ≡ true → cond (a && b) x y ≡ cond a x y
both_true true b x y e = ap (λ (c : Bool). cond c x y) e
both_true false b x y e = refl

-- a text where the place is held
text_where_held : (place : ℕ) (cs : List Checkpoint) (t : List ℕ) →
    cond (holds_in place cs) (Some t) None ≡ text_held (held_digests place cs) t
text_where_held place [] t = refl
text_where_held place (c ∷ cs) t = by (c.place == place) (text_where_held place cs t)
  where
    by : (b : Bool) → cond (holds_in place cs) (Some t) None ≡ text_held (held_digests place cs) t →
        cond (b || holds_in place cs) (Some t) None
        ≡ text_held (cond b (Some c.digests) (held_digests place cs)) t
    by true rest = refl
    by false rest = rest

held_length : (n place : ℕ) (cs : List Checkpoint) (ds : List (List ℕ)) → OfLength n cs →
    held_digests place cs ≡ Some ds → length ds ≡ n
held_length n place [] ds all e = absurd (let bad : None ≡ Some ds = e in cc)
held_length n place (c ∷ cs) ds all e =
    by (held_length n place cs ds (All-tail (λ (c : Checkpoint). length c.digests ≡ n) c cs all)) (c.place == place) e
  where
    by : (held_digests place cs ≡ Some ds → length ds ≡ n) → (b : Bool) →
        cond b (Some c.digests) (held_digests place cs) ≡ Some ds → length ds ≡ n
    by rest true e = (let same : c.digests ≡ ds = (let q : Some c.digests ≡ Some ds = e in cc) in
        ap length (sym same) ∙ All-head (λ (c : Checkpoint). length c.digests ≡ n) c cs all)
    by rest false e = rest e

-- a node above the entries
pub held_node : (place level number : ℕ) (A : List Entry) (s : Store) (text : Option (List ℕ)) → level ≢ 0 →
    IfSome text (IsNodeText place level number s.holds) → (IsSome text ↔ HasNode place level number s.holds) →
    IsHeldItem place level number A s text
held_node place zero number A s text above is some = absurd (above refl)
held_node place (suc level) number A s text above is some = (is, some)

module _ (S : Service) (real : HasRealTexts S) where
  node_is : (level number : ℕ) → IsItem S (tree.item (suc level) number) → (o : Option (List (List ℕ))) →
      ((ds : List (List ℕ)) → o ≡ Some ds → length ds ≡ 16 ^ S.levels) → (text : Option (List ℕ)) →
      IfSome text (λ t. IsSomeAnd o (λ ds. t ≡ node_at ds (suc level) number)) →
      (IsSome text ↔ IsSomeAnd o (λ ds. IsNode (length ds) (suc level) number)) →
      text ≡ node_held S level number o
  node_is level number inside None sizes None is some = refl
  node_is level number inside None sizes (Some t) is some = absurd (some.0 refl)
  node_is level number inside (Some ds) sizes None is some = absurd (
      let none : false ≡ true = some.1 (record {
        levels = S.levels;
        size = sizes ds refl;
        above = omega arith;
        below = inside.0;
        within = inside.1;
      }) in cc)
  node_is level number inside (Some ds) sizes (Some t) is some =
      ap Some (is ∙ sym (nodes_same S real.nodes.digest real.nodes.node ds level number))

  module _ (l : Running) (s : Store) (place : ℕ) (size : length l.array ≡ 16 ^ S.levels)
      (store_size : s.size ≡ 16 ^ S.levels) (holds : s.holds ≡ l.holds) where
    entry_is : (number : ℕ) → IsItem S (tree.item 0 number) → (text : Option (List ℕ)) →
        text ≡ held_text place number l.array s → text ≡ held_item S place l 0 number
    entry_is number inside text is =
        let all : S.levels - 0 ≡ S.levels = omega arith in
        let power : 16 ^ (S.levels - 0) ≡ 16 ^ S.levels = ap (λ (n : ℕ). 16 ^ n) all in
        let low : number < 16 ^ (S.levels - 0) = inside.1 in
        let within : number < length l.array = omega (arith, low, power, size) in
        let stored : number < s.size = omega (arith, low, power, store_size) in
        let text_now : tree.text_of S l.array number ≡ entry_text number (entry_at l.array number)
        = ap (tree.entry_text S number) (slice_get-get_or l.array number null_entry within)
        ∙ real.text number (entry_at l.array number) in
        let now = entry_text number (entry_at l.array number) in
        is ∙ both_true (holds_in place s.holds) (nat_lt number s.size) (Some (held_from place number s.holds now)) None
        (lt-ltb number s.size stored)
        ∙ text_where_held place s.holds (held_from place number s.holds now)
        ∙ ap (λ (cs : List Checkpoint). text_held (held_digests place cs) (held_from place number cs now)) holds
        ∙ ap (λ (t : List ℕ). text_held (held_digests place l.holds) (held_from place number l.holds t)) (sym text_now)

    pub held_is : OfLength (16 ^ S.levels) l.holds → (level number : ℕ) (text : Option (List ℕ)) →
        IsItem S (tree.item level number) → IsHeldItem place level number l.array s text →
        text ≡ held_item S place l level number
    held_is sizes zero number text inside is = entry_is number inside text is
    held_is sizes (suc level) number text inside is =
        node_is level number inside (held_digests place s.holds)
        (λ ds e. held_length (16 ^ S.levels) place s.holds ds
        (subst (OfLength (16 ^ S.levels)) (sym holds) sizes) e) text is.0 is.1
        ∙ ap (λ (cs : List Checkpoint). node_held S level number (held_digests place cs)) holds
