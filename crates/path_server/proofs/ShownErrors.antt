-- An error applies under the handles that are shown where it applies inside.
use Rattle.std.proofs.Common.{◌≡◌, ◌≢◌, ◌⊎◌, inl, inr, ℕ, zero, suc, ◌+◌, ◌-◌, ◌<◌, List, length, Option, Some, None, IsSome, IsSomeAnd, refl, sym, ap, ◌∙◌, subst}
use Rattle.std.specs.Prelude.{max}
use Rattle.std.specs.Option.{option_map}
use Rattle.std.specs.Ordering.{nat_cmp}
use Rattle.std.specs.Cmp.Lexicographic.{slice_cmp}
use Rattle.std.specs.FinMap.{get, empty, len, len-empty, empty_of_len}
use Rattle.server_trait.specs.Tree.{Tree, Node, Names, Content, node_at, names_at, bytes_at, target, bytes_in, text_in, names_in, used}
use Rattle.server_trait.specs.Step.{IsStale, IsNo, HasName, LacksName, HasNames, LeadsIn, IsAtOrBelow, IsOver, NoRoom}
use Rattle.server_trait.specs.Calls.{NodeErr, ContentErr, WriteErr, SetSizeErr, DirErr, LookupErr, MakeErr, IsDir, LinkErr, RemoveErr, RmdirErr, Replaces, RenameErr}
use Rattle.server_trait.specs.declared.server.SrvErr.{SrvErr}
use Rattle.server_trait.specs.declared.server.SrvErr.TheVariants.{Stale, NoEnt, Exists, NotDir, WrongKind, NotEmpty, Subtree, Refused, Full}
use Rattle.server_trait.specs.declared.server.ServerLimits.{ServerLimits}
use Rattle.path_server.specs.Shown.{shown_names, shown_content, shown_node, shown_tree}
use Rattle.path_server.proofs.ShownLaws.{get-shown_names, len-shown_names, names_in-shown, bytes_in-shown, text_in-shown, node_at-shown, names_at-shown, bytes_at-shown, target-shown, len-shown, used-shown}

-- each follows from the other
abbrev pub Alike : Type 0 → Type 0 → Type 0
Alike P Q = (P → Q) × (Q → P)

same : {P : Type 0} → Alike P P
same = (λ x. x, λ x. x)

either : {P Q R S : Type 0} → Alike P Q → Alike R S → Alike (P ⊎ R) (Q ⊎ S)
either {P} {Q} {R} {S} a b = (
  λ x. elim x as (λ _. Q ⊎ S) [ inl p ↦ inl (a.0 p) | inr r ↦ inr (b.0 r) ],
  λ x. elim x as (λ _. P ⊎ R) [ inl q ↦ inl (a.1 q) | inr s ↦ inr (b.1 s) ],
)

pair : {P Q R S : Type 0} → Alike P Q → Alike R S → Alike (P × R) (Q × S)
pair a b = (λ x. (a.0 x.0, b.0 x.1), λ x. (a.1 x.0, b.1 x.1))

-- what is said of equal things
along : {X P : Type 0} (Q : X → Type 0) {x y : X} → x ≡ y → Alike P (Q y) → Alike P (Q x)
along Q e a = (λ p. subst Q (sym e) (a.0 p), λ q. a.1 (subst Q e q))

none_alike : {A B : Type 0} (f : A → B) (o : Option A) → Alike (o ≡ None) (option_map f o ≡ None)
none_alike f None = (λ _. refl, λ _. refl)
none_alike f (Some x) =
    (λ e. absurd (let bad : Some x ≡ None = e in cc), λ e. absurd (let bad : Some (f x) ≡ None = e in cc))

some_alike : {A B : Type 0} (f : A → B) (o : Option A) → Alike (IsSome o) (IsSome (option_map f o))
some_alike f None = same
some_alike f (Some x) = same

some_and_alike : {A B : Type 0} (f : A → B) (P : A → Type 0) (Q : B → Type 0) → ((x : A) → Alike (P x) (Q (f x))) →
    (o : Option A) → Alike (IsSomeAnd o P) (IsSomeAnd (option_map f o) Q)
some_and_alike f P Q a None = same
some_and_alike f P Q a (Some x) = a x

module _ (shown : List ℕ → List ℕ) (twice : (h : List ℕ) → shown (shown h) ≡ h) (t : Tree) where
  abbrev now : Tree
  now = shown_tree shown t

  stale_alike : (q : List ℕ) → Alike (IsStale t q) (IsStale now (shown q))
  stale_alike q = along (λ o. o ≡ None) (node_at-shown shown twice t q) (none_alike (shown_node shown) (node_at t q))

  no_view : {X : Type 0} (view : Content → Option X) →
      ((c : Content) → Alike (view c ≡ None) (view (shown_content shown c) ≡ None)) → (q : List ℕ) →
      Alike (IsNo view t q) (IsNo view now (shown q))
  no_view view a q = along (λ o. IsSomeAnd o (λ (n : Node). view n.content ≡ None)) (node_at-shown shown twice t q)
      (some_and_alike (shown_node shown) (λ (n : Node). view n.content ≡ None) (λ n. view n.content ≡ None)
      (λ n. a n.content) (node_at t q))

  pub no_names : (q : List ℕ) → Alike (IsNo names_in t q) (IsNo names_in now (shown q))
  no_names q = no_view names_in (λ c. along (λ o. o ≡ None) (names_in-shown shown twice c)
      (none_alike (shown_names shown) (names_in c))) q

  pub no_bytes : (q : List ℕ) → Alike (IsNo bytes_in t q) (IsNo bytes_in now (shown q))
  no_bytes q = no_view bytes_in (λ c. along (λ o. o ≡ None) (bytes_in-shown shown twice c) same) q

  pub no_text : (q : List ℕ) → Alike (IsNo text_in t q) (IsNo text_in now (shown q))
  no_text q = no_view text_in (λ c. along (λ o. o ≡ None) (text_in-shown shown twice c) same) q

  has_name : (dir name : List ℕ) → Alike (HasName t dir name) (HasName now (shown dir) name)
  has_name dir name = along IsSome (target-shown shown twice t dir name) (some_alike shown (target t dir name))

  lacks_name : (dir name : List ℕ) → Alike (LacksName t dir name) (LacksName now (shown dir) name)
  lacks_name dir name = along (λ o. IsSomeAnd o (λ (m : Names). get m name ≡ None)) (names_at-shown shown twice t dir)
      (some_and_alike (shown_names shown) (λ (m : Names). get m name ≡ None) (λ m. get m name ≡ None)
      (λ m. along (λ o. o ≡ None) (get-shown_names shown twice m name) (none_alike shown (get m name)))
      (names_at t dir))

  no_names_at_all : (m : Names) → Alike (m ≢ empty) (shown_names shown m ≢ empty)
  no_names_at_all m = (
    λ some e. some (empty_of_len m
        (sym (len-shown_names shown twice m) ∙ ap len e ∙ len-empty (slice_cmp nat_cmp) (List ℕ))),
    λ some e. some (empty_of_len (shown_names shown m) (len-shown_names shown twice m ∙ ap len e
        ∙ len-empty (slice_cmp nat_cmp) (List ℕ))),
  )

  has_names : (q : List ℕ) → Alike (HasNames t q) (HasNames now (shown q))
  has_names q = along (λ o. IsSomeAnd o (λ (m : Names). m ≢ empty)) (names_at-shown shown twice t q)
      (some_and_alike (shown_names shown) (λ (m : Names). m ≢ empty) (λ m. m ≢ empty) no_names_at_all (names_at t q))

  is_dir : (q : List ℕ) → Alike (IsDir t q) (IsDir now (shown q))
  is_dir q = along IsSome (names_at-shown shown twice t q) (some_alike (shown_names shown) (names_at t q))

  target_found : (o : Option (List ℕ)) (y : List ℕ) → option_map shown o ≡ Some y →
      (x : List ℕ) × (o ≡ Some x) × (y ≡ shown x)
  target_found None y e = absurd (let bad : None ≡ Some y = e in cc)
  target_found (Some x) y e = (x, refl, (let f : Some (shown x) ≡ Some y = e in let g : y ≡ shown x = cc in g))

  pub target_of : (dir name y : List ℕ) → target now (shown dir) name ≡ Some y →
      (x : List ℕ) × (target t dir name ≡ Some x) × (y ≡ shown x)
  target_of dir name y e = target_found (target t dir name) y (sym (target-shown shown twice t dir name) ∙ e)

  pub target_at : (dir name x : List ℕ) → target t dir name ≡ Some x → target now (shown dir) name ≡ Some (shown x)
  target_at dir name x e = target-shown shown twice t dir name ∙ ap (option_map shown) e

  leads_shown : (k : ℕ) (h q : List ℕ) → LeadsIn t k h q → LeadsIn now k (shown h) (shown q)
  leads_shown zero h q e = ap shown e
  leads_shown (suc k) h q p = (p.0, shown p.1, target_at h p.0 p.1 p.2, leads_shown k p.1 q p.3)

  leads_inside : (k : ℕ) (h q : List ℕ) → LeadsIn now k (shown h) (shown q) → LeadsIn t k h q
  leads_inside zero h q e = sym (twice h) ∙ ap shown e ∙ twice q
  leads_inside (suc k) h q p =
      let x = target_of h p.0 p.1 p.2 in
      (p.0, x.0, x.1, leads_inside k x.0 q (subst (λ y. LeadsIn now k y (shown q)) x.2 p.3))

  at_or_below : (h q : List ℕ) → Alike (IsAtOrBelow t h q) (IsAtOrBelow now (shown h) (shown q))
  at_or_below h q = (λ p. (p.0, leads_shown p.0 h q p.1), λ p. (p.0, leads_inside p.0 h q p.1))

  no_room : (limits : ServerLimits) (nodes less more : ℕ) →
      Alike (NoRoom limits t nodes less more) (NoRoom limits now nodes less more)
  no_room limits nodes less more =
      along (λ n. IsOver limits (n + nodes) ((used now - less) + more)) (len-shown shown twice t)
      (along (λ n. IsOver limits (len t.nodes + nodes) ((n - less) + more)) (used-shown shown twice t) same)

  replaces : (P Q : List ℕ → List ℕ → Type 0) → ((h r : List ℕ) → Alike (P h r) (Q (shown h) (shown r))) →
      (from name to to_name : List ℕ) →
      Alike (Replaces P t from name to to_name) (Replaces Q now (shown from) name (shown to) to_name)
  replaces P Q a from name to to_name = (
    λ p. record {
      moved = shown p.moved;
      replaced = shown p.replaced;
      is_moved = target_at from name p.moved p.is_moved;
      is_replaced = target_at to to_name p.replaced p.is_replaced;
      apart = λ e. p.apart (sym (twice p.replaced) ∙ ap shown e ∙ twice p.moved);
      holds = (a p.moved p.replaced).0 p.holds;
    },
    λ p.
        let x = target_of from name p.moved p.is_moved in
        let y = target_of to to_name p.replaced p.is_replaced in
        record {
          moved = x.0;
          replaced = y.0;
          is_moved = x.1;
          is_replaced = y.1;
          apart = λ e. p.apart (y.2 ∙ ap shown e ∙ sym x.2);
          holds = (a x.0 y.0).1 (subst (λ z. Q z (shown y.0)) x.2 (subst (Q p.moved) y.2 p.holds));
        },
  )

  -- of the node to which a name leads
  of_target : (P Q : List ℕ → Type 0) → ((h : List ℕ) → Alike (P h) (Q (shown h))) → (dir name : List ℕ) →
      Alike (IsSomeAnd (target t dir name) P) (IsSomeAnd (target now (shown dir) name) Q)
  of_target P Q a dir name = along (λ o. IsSomeAnd o Q) (target-shown shown twice t dir name)
      (some_and_alike shown P Q a (target t dir name))

  -- CALL BY CALL

  pub node_err : (q : List ℕ) (e : SrvErr) → Alike (NodeErr q t e) (NodeErr (shown q) now e)
  node_err q Stale = stale_alike q
  node_err q e = same

  pub read_err : (q : List ℕ) (e : SrvErr) → Alike (ContentErr bytes_in q t e) (ContentErr bytes_in (shown q) now e)
  read_err q Stale = stale_alike q
  read_err q WrongKind = no_bytes q
  read_err q e = same

  pub read_link_err : (q : List ℕ) (e : SrvErr) → Alike (ContentErr text_in q t e) (ContentErr text_in (shown q) now e)
  read_link_err q Stale = stale_alike q
  read_link_err q WrongKind = no_text q
  read_link_err q e = same

  of_bytes : (P Q : List ℕ → Type 0) → ((b : List ℕ) → Alike (P b) (Q b)) → (q : List ℕ) →
      Alike (IsSomeAnd (bytes_at t q) P) (IsSomeAnd (bytes_at now (shown q)) Q)
  of_bytes P Q a q = along (λ o. IsSomeAnd o Q) (bytes_at-shown shown twice t q) (each (bytes_at t q))
    where
      each : (o : Option (List ℕ)) → Alike (IsSomeAnd o P) (IsSomeAnd o Q)
      each None = same
      each (Some b) = a b

  pub write_err : (limits : ServerLimits) (q : List ℕ) (offset count : ℕ) (e : SrvErr) →
      Alike (WriteErr limits q offset count t e) (WriteErr limits (shown q) offset count now e)
  write_err limits q offset count Refused = of_bytes (λ b. length b < offset) (λ b. length b < offset) (λ b. same) q
  write_err limits q offset count Full =
      of_bytes (λ b. NoRoom limits t 0 (length b) (max (length b) (offset + count)))
      (λ b. NoRoom limits now 0 (length b) (max (length b) (offset + count)))
      (λ b. no_room limits 0 (length b) (max (length b) (offset + count))) q
  write_err limits q offset count e = read_err q e

  pub set_size_err : (limits : ServerLimits) (q : List ℕ) (size : ℕ) (e : SrvErr) →
      Alike (SetSizeErr limits q size t e) (SetSizeErr limits (shown q) size now e)
  set_size_err limits q size Full = of_bytes (λ b. NoRoom limits t 0 (length b) size)
      (λ b. NoRoom limits now 0 (length b) size) (λ b. no_room limits 0 (length b) size) q
  set_size_err limits q size e = read_err q e

  pub dir_err : (dir : List ℕ) (e : SrvErr) → Alike (DirErr dir t e) (DirErr (shown dir) now e)
  dir_err dir Stale = stale_alike dir
  dir_err dir NotDir = no_names dir
  dir_err dir e = same

  pub lookup_err : (dir name : List ℕ) (e : SrvErr) → Alike (LookupErr dir name t e) (LookupErr (shown dir) name now e)
  lookup_err dir name NoEnt = lacks_name dir name
  lookup_err dir name e = dir_err dir e

  pub make_err : (limits : ServerLimits) (dir name : List ℕ) (bytes : ℕ) (e : SrvErr) →
      Alike (MakeErr limits dir name bytes t e) (MakeErr limits (shown dir) name bytes now e)
  make_err limits dir name bytes Exists = has_name dir name
  make_err limits dir name bytes Full = no_room limits 1 0 _
  make_err limits dir name bytes e = dir_err dir e

  pub link_err : (limits : ServerLimits) (h dir name : List ℕ) (e : SrvErr) →
      Alike (LinkErr limits h dir name t e) (LinkErr limits (shown h) (shown dir) name now e)
  link_err limits h dir name Stale = either (stale_alike h) (stale_alike dir)
  link_err limits h dir name NotDir = no_names dir
  link_err limits h dir name WrongKind = is_dir h
  link_err limits h dir name Exists = has_name dir name
  link_err limits h dir name Full = no_room limits 0 0 _
  link_err limits h dir name e = same

  pub remove_err : (dir name : List ℕ) (e : SrvErr) → Alike (RemoveErr dir name t e) (RemoveErr (shown dir) name now e)
  remove_err dir name WrongKind = of_target (IsDir t) (IsDir now) is_dir dir name
  remove_err dir name e = lookup_err dir name e

  pub rmdir_err : (dir name : List ℕ) (e : SrvErr) → Alike (RmdirErr dir name t e) (RmdirErr (shown dir) name now e)
  rmdir_err dir name NotDir = either (no_names dir) (of_target (IsNo names_in t) (IsNo names_in now) no_names dir name)
  rmdir_err dir name NotEmpty = of_target (HasNames t) (HasNames now) has_names dir name
  rmdir_err dir name e = lookup_err dir name e

  pub rename_err : (from name to to_name : List ℕ) (e : SrvErr) →
      Alike (RenameErr from name to to_name t e) (RenameErr (shown from) name (shown to) to_name now e)
  rename_err from name to to_name Stale = either (stale_alike from) (stale_alike to)
  rename_err from name to to_name NotDir = either (either (no_names from) (no_names to))
      (replaces (λ h r. IsDir t h × IsNo names_in t r) (λ h r. IsDir now h × IsNo names_in now r)
      (λ h r. pair (is_dir h) (no_names r)) from name to to_name)
  rename_err from name to to_name NoEnt = lacks_name from name
  rename_err from name to to_name WrongKind =
      replaces (λ h r. IsNo names_in t h × IsDir t r) (λ h r. IsNo names_in now h × IsDir now r)
      (λ h r. pair (no_names h) (is_dir r)) from name to to_name
  rename_err from name to to_name NotEmpty =
      replaces (λ _ r. HasNames t r) (λ _ r. HasNames now r) (λ _ r. has_names r) from name to to_name
  rename_err from name to to_name Subtree = of_target (λ h. IsDir t h × IsAtOrBelow t h to)
      (λ h. IsDir now h × IsAtOrBelow now h (shown to)) (λ h. pair (is_dir h) (at_or_below h to)) from name
  rename_err from name to to_name Refused = has_name to to_name
  rename_err from name to to_name e = same
