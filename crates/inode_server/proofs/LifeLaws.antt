-- A tree that is read again is the same tree under other handles.
use Rattle.std.proofs.Common.{◌≡◌, ℕ, ◌^◌, ◌<◌, arith, Bool, true, false, Ok, Err, List, take, Option, Some, None, IsSome, IsSomeAnd, refl, sym, ap, ◌∙◌, subst}
use Rattle.std.specs.Option.{option_map}
use Rattle.std.specs.FinMap.{get}
use Rattle.std.specs.Int.{w32, to_be_bytes, from_be_bytes}
use Rattle.std.proofs.lemmas.Nat.{from_be_bytes-to_be_bytes_4}
use Rattle.pointer_tree.specs.Tree.{Content as Blocks}
use Rattle.pointer_tree.specs.declared.node.Area.{Area}
use Rattle.server_trait.specs.declared.server.ServerLimits.{ServerLimits}
use Rattle.server_trait.specs.Tree.{Tree, Node, node_at}
use Rattle.server_trait.specs.Calls.{IsMovedContent, IsMovedNode, Rebooted, Reboot}
use Rattle.server_trait.proofs.SoftLaws.{some_of}
use Rattle.server_trait.proofs.TreeLaws.{is_some_and, some_none}
use Rattle.nfs2_types.specs.declared.fattr.Kind.TheVariants.{Dir}
use Rattle.inode_dirs.specs.Files.{File, table_of}
use Rattle.inode_dirs.specs.Slots.{Slots, names_of}
use Rattle.inode_dirs.specs.Table.{Body, FileBytes, LinkText, DirSlots, Entry, content_of, node_of}
use Rattle.inode_dirs.specs.declared.index.Place.{Place}
use Rattle.inode_dirs.proofs.SlotLaws.{names-indexed}
use Rattle.inode_dirs.proofs.TableLaws.{node-used, node-from}
use Rattle.inode_tree.specs.Handles.{handle_bytes}
use Rattle.inode_tree.specs.Kept.{tables_of}
use Rattle.inode_tree.specs.Sound.{IsTied, IsSound, IsPlanned, the_tree}
use Rattle.inode_tree.specs.Tables.{Tables}
use Rattle.inode_tree.specs.declared.tables.InodeTables.{InodeTables}
use Rattle.inode_tree.specs.declared.tree.InodeTree.{InodeTree}
use Rattle.inode_tree.proofs.TiedLaws.{some_is, entry_some, apart}
use Rattle.std.specs.Prelude.{◌++◌, codes, replicate, if◌then◌else◌, Result, OnOk, OnErr, IfErr}
use Rattle.server_trait.specs.Step.{Counts}
use Rattle.inode_store.specs.Held.{held}
use Rattle.outside.specs.Causes.{WriteHasCause}
use Rattle.outside.specs.declared.medium.MediumErr.{MediumErr}
use Rattle.outside.specs.declared.medium.MediumErr.TheVariants.{Failed, NoMemory as Spent}
use Rattle.server_trait.specs.Calls.{IsFresh, Wipe, WipeOutcome}
use Rattle.server_trait.specs.declared.server.SrvErr.{SrvErr}
use Rattle.inode_store.specs.Held.{files_of}
use Rattle.inode_store.specs.Layout.{superblock}
use Rattle.inode_tree.specs.Whole.{tree_in, IsWhole}
use Rattle.inode_tree.proofs.WipeLaws.{planned-again}
use Rattle.inode_server.specs.Answers.{srv_err, is_kept, stands}
use Rattle.inode_server.specs.Ready.{IsReady}
use Rattle.inode_server.specs.State.{server_of}
use Rattle.inode_server.proofs.CallLaws.{IsCall, fail_counts}

abbrev pub reboot_call : {M : Type 0} (content : M → ℕ → List ℕ) (faults : M → ℕ) (old : InodeTree M) →
    IsCall {T = Unit} content faults Reboot old
reboot_call content faults old = record {
  done = λ t _ after. Rebooted t after;
  applies = λ _ _. ⊥;
  is = λ r new x. x;
}

-- the inode of a handle
abbrev number_in : List ℕ → ℕ
number_in h = from_be_bytes w32 (take 4 h)

number-handle : (i epoch salt : ℕ) → i < 2 ^ 32 → number_in (handle_bytes i epoch salt) ≡ i
unfolding handle_bytes
number-handle i epoch salt fits = from_be_bytes-to_be_bytes_4 i fits

module _ (n : ℕ) (files : ℕ → Option File) (s s' : InodeTables) (small : n < 2 ^ 32)
    (tied : IsTied n files (tables_of s)) (tied' : IsTied n files (tables_of s')) where
  abbrev h : ℕ → List ℕ
  h = (tables_of s).handle

  abbrev h' : ℕ → List ℕ
  h' = (tables_of s').handle

  abbrev tree : Tree
  tree = the_tree n files (tables_of s)

  abbrev tree' : Tree
  tree' = the_tree n files (tables_of s')

  abbrev moved_to : List ℕ → List ℕ
  moved_to q = h' (number_in q)

  at_inode : (i : ℕ) → i < n → moved_to (h i) ≡ h' i
  at_inode i l = ap h' (number-handle i _ _ (let goal : i < 2 ^ 32 = omega (arith, l, small) in goal))

  names_moved : (i : ℕ) (e : Entry) (ss : Slots) → table_of files i ≡ Some e → e.body ≡ DirSlots ss → (q : List ℕ) →
      get (names_of h' ss) q ≡ option_map moved_to (get (names_of h ss) q)
  names_moved i e ss at body q =
      names-indexed h' ((tables_of s).place i) ss (tied.index i e ss at body) q
      ∙ by ((tables_of s).place i q) refl
      ∙ ap (option_map moved_to) (sym (names-indexed h ((tables_of s).place i) ss (tied.index i e ss at body) q))
    where
      by : (o : Option Place) → (tables_of s).place i q ≡ o → option_map (λ (p : Place). h' p.inode) o ≡
          option_map moved_to (option_map (λ (p : Place). h p.inode) o)
      by None is = refl
      by (Some p) is = ap Some (sym (at_inode p.inode
          (tied.few p.inode (entry_some files p.inode (tied.led i e ss q p at body is)))))

  content_moved : (i : ℕ) (e : Entry) → table_of files i ≡ Some e → (b : Body) → e.body ≡ b →
      IsMovedContent moved_to (content_of h b) (content_of h' b)
  content_moved i e at (FileBytes b) is = refl
  content_moved i e at (LinkText x) is = refl
  content_moved i e at (DirSlots ss) is = names_moved i e ss at is

  node_moved : (i : ℕ) (e : Entry) → table_of files i ≡ Some e → IsMovedNode moved_to (node_of h i e) (node_of h' i e)
  node_moved i e at = record {
    number = refl;
    mode = refl;
    uid = refl;
    gid = refl;
    content = content_moved i e at e.body refl;
  }

  abbrev From : List ℕ → Node → Type 0
  From q x = (i : ℕ) × (e : Entry) × (table_of files i ≡ Some e) × (h i ≡ q) × (node_of h i e ≡ x)

  from : (q : List ℕ) (x : Node) → node_at tree q ≡ Some x → From q x
  from q x is = node-from h n (table_of files) (apart n files (tables_of s) tied) q x is

  used : (i : ℕ) (e : Entry) → table_of files i ≡ Some e → i < n
  used i e at = tied.few i (entry_some files i (some_is at))

  to_inode : (q : List ℕ) (x : Node) (f : From q x) → moved_to q ≡ h' f.0
  to_inode q x f = ap moved_to (sym f.3) ∙ at_inode f.0 (used f.0 f.1 f.2)

  there : (q : List ℕ) (x : Node) → node_at tree q ≡ Some x → IsSomeAnd (node_at tree' (moved_to q)) (IsMovedNode moved_to x)
  there q x is =
      let f = from q x is in
      is_some_and (IsMovedNode moved_to x) (ap (node_at tree') (to_inode q x f)
      ∙ node-used h' n (table_of files) (apart n files (tables_of s') tied') f.0 f.1 f.2)
      (subst (λ x. IsMovedNode moved_to x (node_of h' f.0 f.1)) f.4 (node_moved f.0 f.1 f.2))

  back : (q : List ℕ) → IsSome (node_at tree' q) → (p : List ℕ) × (q ≡ moved_to p) × IsSome (node_at tree p)
  back q some =
      let x = some_of (node_at tree' q) some in
      let f = node-from h' n (table_of files) (apart n files (tables_of s') tied') q x.0 x.1 in (
        h f.0,
        sym f.3 ∙ sym (at_inode f.0 (used f.0 f.1 f.2)),
        some_is (node-used h n (table_of files) (apart n files (tables_of s) tied) f.0 f.1 f.2),
      )

  still_apart : (p q : List ℕ) → IsSome (node_at tree p) → IsSome (node_at tree q) → moved_to p ≡ moved_to q → p ≡ q
  still_apart p q some_p some_q same =
      let x = some_of (node_at tree p) some_p in
      let y = some_of (node_at tree q) some_q in
      let f = from p x.0 x.1 in
      let g = from q y.0 y.1 in
      let one = tied'.apart f.0 g.0 (used f.0 f.1 f.2) (used g.0 g.1 g.2)
      (sym (to_inode p x.0 f) ∙ same ∙ to_inode q y.0 g) in
      sym f.3 ∙ ap h one ∙ g.3

  root_within : 0 < n
  root_within = tied.few 0 (by (files 0) tied.root)
    where
      by : (o : Option File) → option_map (λ (f : File). f.kind) o ≡ Some Dir → IsSome o
      by None bad = absurd (some_none bad refl)
      by (Some f) is = refl

  pub rebooted : (after : Option Tree) → after ≡ Some tree' → Rebooted tree after
  rebooted after is = record {
    tree = tree';
    new = moved_to;
    moved = record {
      root = sym (at_inode 0 root_within);
      there = there;
      back = back;
      apart = still_apart;
    };
    has_tree = is;
  }

-- what is sound is planned
pub planned : (limits : ServerLimits) (area : Area) (n : ℕ) (c : Blocks) (size : ℕ) (m : List Bool) (t : Tables) →
    IsSound limits area n c size m t → IsPlanned limits area n size
planned limits area n c size m t sound = record {
  inodes = sound.inodes;
  first = sound.keeps.first;
  blocks = sound.blocks;
  on_medium = sound.keeps.on_medium;
  small = sound.keeps.small;
  limited = sound.limited;
}

pub rebooted_as : {M : Type 0} (content : M → ℕ → List ℕ) (size : M → ℕ) (s n : InodeTree M) → IsWhole content size s →
    IsWhole content size n → n.store.area ≡ s.store.area → n.store.inodes ≡ s.store.inodes →
    content n.store.medium ≡ content s.store.medium → Rebooted (tree_in content s) (Some (tree_in content n))
rebooted_as content size s n whole whole' area inodes blocks =
    let files : ℕ → Option File = files_of s.store.area s.store.inodes (content s.store.medium) in
    let tied : IsTied s.store.inodes files (tables_of n.tables) =
    subst (λ i. IsTied i (files_of s.store.area i (content s.store.medium)) (tables_of n.tables)) inodes
    (subst (λ a. IsTied n.store.inodes (files_of a n.store.inodes (content s.store.medium)) (tables_of n.tables)) area
    (subst (λ c. IsTied n.store.inodes (files_of n.store.area n.store.inodes c) (tables_of n.tables)) blocks whole'.tied)) in
    let same : tree_in content n ≡ the_tree s.store.inodes files (tables_of n.tables) =
    ap (λ c. the_tree n.store.inodes (files_of n.store.area n.store.inodes c) (tables_of n.tables)) blocks
    ∙ ap (λ a. the_tree n.store.inodes (files_of a n.store.inodes (content s.store.medium)) (tables_of n.tables)) area
    ∙ ap (λ i. the_tree i (files_of s.store.area i (content s.store.medium)) (tables_of n.tables)) inodes in
    let first = whole.keeps.first in
    let ordered = whole.keeps.ordered in
    let on_medium = whole.keeps.on_medium in
    let small = whole.keeps.small in
    rebooted s.store.inodes files s.tables n.tables (omega (arith, first, ordered, on_medium, small)) whole.tied tied
    (Some (tree_in content n)) (ap Some same)

-- A WIPE

pub wiped : {M : Type 0} (content : M → ℕ → List ℕ) (size faults : M → ℕ) (s n : InodeTree M) (up : Bool) →
    IsFresh (Some (tree_in content n)) → n.limits ≡ s.limits → faults n.store.medium ≡ faults s.store.medium →
    Wipe (server_of content faults up s) (Ok tt) (server_of content faults true n)
wiped content size faults s n up fresh limits count = record { tree = fresh; limits = limits; faults = count }

failed_tree : (e : MediumErr) (u : Option Tree) → u ≡ None → WipeOutcome (Err (srv_err e)) u
failed_tree Failed u is = is
failed_tree Spent u is = is

down : (e : MediumErr) → is_kept (srv_err e) ≡ false
down Failed = refl
down Spent = refl

pub wipe_failed : {M R : Type 0} (content : M → ℕ → List ℕ) (size faults : M → ℕ) (s n : InodeTree M) (up : Bool)
    (e : MediumErr) (r : SrvErr) → r ≡ srv_err e → n.limits ≡ s.limits →
    WriteHasCause {T = R} (faults s.store.medium) (faults n.store.medium) (Err e) →
    Wipe (server_of content faults up s) (Err r) (server_of content faults (is_kept r) n)
wipe_failed content size faults s n up e r is limits cause =
    subst (λ r. Wipe (server_of content faults up s) (Err r) (server_of content faults (is_kept r) n)) (sym is) (record {
      tree = failed_tree e _ (ap (λ (b : Bool). if b then Some (tree_in content n) else None) (down e));
      limits = limits;
      faults = fail_counts Unit (faults s.store.medium) (faults s.store.medium) (faults n.store.medium) e refl cause;
    })

module _ {M : Type 0} (content : M → ℕ → List ℕ) (size : M → ℕ) (s n : InodeTree M)
    (plan : IsPlanned s.limits s.store.area s.store.inodes (size s.store.medium)) (limits : n.limits ≡ s.limits)
    (area : n.store.area ≡ s.store.area) (inodes : n.store.inodes ≡ s.store.inodes)
    (on_medium : size n.store.medium ≡ size s.store.medium) where
  plan_again : IsPlanned n.limits n.store.area n.store.inodes (size n.store.medium)
  plan_again = planned-again n.limits s.store.area n.store.area s.store.inodes n.store.inodes (size s.store.medium)
      (size n.store.medium) (subst (λ l. IsPlanned l s.store.area s.store.inodes (size s.store.medium)) (sym limits) plan)
      area inodes on_medium

  pub ready_fresh : IsWhole content size n → content n.store.medium 0 ≡ superblock s.limits →
      IsReady content size true n
  ready_fresh whole name = record {
    planned = plan_again;
    whole = λ _. whole;
    name = λ _. name ∙ ap superblock (sym limits);
  }

  pub ready_down : (e : MediumErr) (r : SrvErr) → r ≡ srv_err e → IsReady content size (is_kept r) n
  ready_down e r is =
      let no : is_kept r ≡ false = ap is_kept is ∙ down e in
      record {
        planned = plan_again;
        whole = λ u. absurd (let bad : false ≡ true = sym no ∙ u in cc);
        name = λ u. absurd (let bad : false ≡ true = sym no ∙ u in cc);
      }

  -- A MOUNT

  pub ready_mounted : (r : Result Unit SrvErr) → OnOk r (IsWhole content size n) → IfErr r (λ e. is_kept e ≡ false) →
      content n.store.medium 0 ≡ superblock s.limits → (up : Bool) → up ≡ stands r → IsReady content size up n
  ready_mounted (Ok x) whole broken name up is = record {
    planned = plan_again;
    whole = λ _. whole;
    name = λ _. name ∙ ap superblock (sym limits);
  }
  ready_mounted (Err e) whole broken name up is = record {
    planned = plan_again;
    whole = λ u. absurd (let bad : false ≡ true = sym broken ∙ sym is ∙ u in cc);
    name = λ u. absurd (let bad : false ≡ true = sym broken ∙ sym is ∙ u in cc);
  }

  pub tree_mounted : (faults : M → ℕ) (r : Result Unit SrvErr) → content n.store.medium ≡ content s.store.medium →
      (up : Bool) → up ≡ stands r → OnOk r ((server_of content faults up n).tree ≡
      Some (held (tables_of n.tables).handle s.store.area s.store.inodes (content s.store.medium)))
  tree_mounted faults (Ok x) blocks up is =
      ap (λ (b : Bool). if b then Some (tree_in content n) else None) is
      ∙ ap (λ c. Some (held (tables_of n.tables).handle n.store.area n.store.inodes c)) blocks
      ∙ ap (λ a. Some (held (tables_of n.tables).handle a n.store.inodes (content s.store.medium))) area
      ∙ ap (λ i. Some (held (tables_of n.tables).handle s.store.area i (content s.store.medium))) inodes
  tree_mounted faults (Err e) blocks up is = tt

  pub none_mounted : (faults : M → ℕ) (r : Result Unit SrvErr) → IfErr r (λ e. is_kept e ≡ false) →
      (up : Bool) → up ≡ stands r → OnErr r ((server_of content faults up n).tree ≡ None)
  none_mounted faults (Ok x) broken up is = tt
  none_mounted faults (Err e) broken up is = ap (λ (b : Bool). if b then Some (tree_in content n) else None) (is ∙ broken)

-- an error of the medium leaves no tree
pub breaks : (e : MediumErr) (r : SrvErr) → r ≡ srv_err e → is_kept r ≡ false
breaks e r is = ap is_kept is ∙ down e

pub fail_counts_as : {R : Type 0} (T : Type 0) (before now : ℕ) (e : MediumErr) (r : SrvErr) → r ≡ srv_err e →
    WriteHasCause {T = R} before now (Err e) → Counts {T = T} before now (Err r)
fail_counts_as T before now e r is cause = subst (λ r. Counts {T = T} before now (Err r)) (sym is)
    (fail_counts T before before now e refl cause)

-- the bytes of block 0, however they are joined
pub nested : (limits : ServerLimits) → (codes "BASEINO1" ++ (to_be_bytes w32 limits.nodes ++
    to_be_bytes w32 limits.bytes)) ++ replicate 496 0 ≡ superblock limits
nested limits = refl
