-- LINK, from what was found to its answer.
use Rattle.std.proofs.Common.{◌≡◌, ℕ, List, [], ◌∷◌, Option, Result, Ok, refl, sym, ap, ◌∙◌, subst}
use Rattle.nfs2_types.specs.declared.Limits.{Limits}
use Rattle.nfs2_types.specs.declared.Cred.{Cred}
use Rattle.nfs2_types.specs.declared.Time.{Time}
use Rattle.nfs2_types.specs.declared.Stat.{Stat}
use Rattle.nfs2_types.specs.Call.{link}
use Rattle.server_trait.specs.Tree.{Tree, Server}
use Rattle.server_trait.specs.declared.server.ServerLimits.{ServerLimits}
use Rattle.server_trait.specs.declared.bench.ConfTable.{ConfTable}
use Rattle.abs_model.specs.declared.entry.Entry.{Entry}
use Rattle.abs_model.specs.Array.{at}
use Rattle.abs_model.specs.Machine.{refusals}
use Rattle.abs_model.proofs.Named.{at-live}
use Rattle.conf_map.specs.Stands.{StandsValid, StandValid, AreWithin, HasRoom, Stands}
use Rattle.conf_map.proofs.Shows.{stand_valid}
use Rattle.wrap_names.specs.declared.find.Found.{Found}
use Rattle.wrap_names.specs.Adds.{IsLink}
use Rattle.node_changes.specs.Links.{names_both, CanLink}
use Rattle.conf_map.specs.Found.{Finds}
use Rattle.conf_map.proofs.Performed.{Does}

-- what server and table stand for still
pub link_here : (limits : Limits) → AreWithin limits → (table : ConfTable) (A : List Entry) {s0 : Option Tree} →
    StandsValid limits s0 table A → (s : Option Tree) → s ≡ s0 → StandValid s table A
link_here limits within table A k s same =
    stand_valid limits s table A within (subst (λ s. StandsValid limits s table A) (sym same) k)

module _ (limits : Limits) (within : AreWithin limits) (table : ConfTable) (A : List Entry) (node dir name : List ℕ)
    {s0 : Option Tree} (k : StandsValid limits s0 table A) {r : Result Found Stat}
    (finds : (A : List Entry) → StandsValid limits s0 table A →
    Finds (refusals A limits (link node dir name)) (IsLink A limits table.rows.items node dir name) r)
    (f : Found) (is : r ≡ Ok f) where
  c : IsLink A limits table.rows.items node dir name f
  c = ((finds A k).found f is).1

  pub link_does : (cred : Cred) (t : Time) → Does A limits cred t (link node dir name)
      (names_both A f.dir.index name f.at.index t) (f.dir.index ∷ f.at.index ∷ [])
  link_does cred t = record {
    none = ((finds A k).found f is).0;
    puts_are = ap (λ d. names_both A d name (at A node) t) (at-live A dir f.dir.index c.new.in_dir.is_index)
        ∙ ap (λ i. names_both A f.dir.index name i t) (at-live A node f.at.index c.object.is_index);
    tells_are = refl;
  }

  -- the object can get the name
  pub can_link : (s : Server) → s.tree ≡ s0 → {most : ServerLimits} → s.limits ≡ most → HasRoom limits most →
      CanLink s table A name f.dir f.at
  can_link s same same_limits room = record {
    limits = limits;
    within = within;
    valid = k.valid;
    stands = subst (λ s. Stands s table A) (sym same) k.stands;
    tallied = k.tallied;
    room = subst (HasRoom limits) (sym same_limits) room;
    live = c.new.in_dir.live;
    is_dir = c.new.in_dir.is_dir;
    good = c.new.good;
    lacks = c.new.lacks;
    object = c.object.live;
    no_dir = c.object.no_dir;
    space = c.space;
  }
