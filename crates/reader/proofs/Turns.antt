-- A turn of the reader's walk: what is due by what is known, and what is known after one record more.
use Prim.Native.Nat.{ℕ, ◌+◌, ◌-◌, ◌≤◌, ◌<◌}
use native.Mathlib.Omega.{arith}
use mathlib.Core.Path.{◌≡◌, refl, ap, subst}
use mathlib.Core.List.{List}
use lib.ListN.{length}
use Rattle.std.proofs.Common.{Result}
use Rattle.awhile.specs.Refusals.{Answer, as_result, refused, got, and_then}
use Rattle.awhile.specs.Tables.{max_arrays, max_nodes, labels_start, nodes_start, read_header, read_labels, read_count, read_table}
use Rattle.awhile.proofs.Accepted.{HeaderFits, header_fits}
use Rattle.awhile.proofs.Versions.{mask_most}
use Rattle.record.specs.RecordRead.{Heads}
use Rattle.reader.specs.Index.{Ready, EndedAs, Finishes}
use Rattle.reader.specs.Walk.{begun, header_due, labels_due, count_due, node_due, end_due, read_on, CountsLeft, NodesLeft, Long, Fresh, Declared, Counted, Walking, at_header, at_labels, at_array, at_node, at_end}
use Rattle.reader.specs.Walk.{Turned, TurnedAs, BodyDue, NodeReady, NodeTurned, node_refused, node_read}
use Rattle.reader.proofs.Counting.{counts_start_lem, counts_more, counts_stop, counts_done}
use Rattle.reader.proofs.Walking.{nodes_start_lem, offset_small, heads_before}
use Rattle.reader.proofs.Answering.{header_stop, labels_stop, arrays_stop, nodes_stopped, nodes_finished}
use Rattle.awhile.specs.declared.Refusal.{Refusal}
use Rattle.reader.specs.declared.records.Progress.{Progress}
use Rattle.reader.specs.declared.records.Due.TheVariants.{Header as HeaderDue, Labels as LabelsDue, Body}

-- where two things are due at once, `cc` shows this
never : ◌≡◌ {A = ℕ} 0 1 → ⊥
never z = omega arith

-- before the first record the header is due, and every record is left
begun_due : (p : Progress) → p ≡ begun → p.due ≡ HeaderDue
unfolding begun
begun_due p e = ap (λ (x : Progress). x.due) e

begun_left : (p : Progress) → p ≡ begun → p.left ≡ 3 + max_arrays + max_nodes
unfolding begun
begun_left p e = ap (λ (x : Progress). x.left) e

-- offsets are small
at_small : (s : List ℕ) (at : ℕ) (p : Progress) (index uses : List ℕ) (n : ℕ) → Counted s p.declared → NodesLeft s p.declared.header index uses at n → at < 65000
at_small s at p index uses n c h =
    let fit = header_fits s p.declared.header c.declared.is_header in
    omega (arith, offset_small _ _ _ _ _ _ h)

module _ (s : List ℕ) (at : ℕ) (p : Progress) (index uses : List ℕ) (some : 0 < p.left) where
  -- ---- what is due, by what is known
  -- the header
  pub record HeaderReady : Type 0 where
    pub here : at ≡ 0
    pub all_left : p.left ≡ 3 + max_arrays + max_nodes
    pub fresh : Fresh s index uses

  pub header_ready : Walking s at p index uses → p.due ≡ HeaderDue → HeaderReady
  header_ready (at_header z b f) d = record { here = z; all_left = begun_left p b; fresh = f }
  header_ready (at_labels z e l h f) d = absurd (never (cc))
  header_ready (at_array e left l h c f) d = absurd (never (cc))
  header_ready (at_node e n l c h g) d = absurd (never (cc))
  header_ready (at_end l w) d = absurd (omega arith)

  -- the labels
  pub record LabelsReady : Type 0 where
    pub here : at ≡ labels_start p.declared.header
    pub sum_left : p.left ≡ 2 + p.declared.header.arrays + p.declared.header.nodes
    pub is_header : read_header s ≡ got p.declared.header
    pub fresh : Fresh s index uses

  pub labels_ready : Walking s at p index uses → p.due ≡ LabelsDue → LabelsReady
  labels_ready (at_header z b f) d = absurd (never (cc (begun_due p b)))
  labels_ready (at_labels z e l h f) d = record { here = z; sum_left = l; is_header = h; fresh = f }
  labels_ready (at_array e left l h c f) d = absurd (never (cc))
  labels_ready (at_node e n l c h g) d = absurd (never (cc))
  labels_ready (at_end l w) d = absurd (omega arith)

  -- an array
  pub record ArrayReady : Type 0 where
    pub left : ℕ
    pub more : 0 < left
    pub sum_left : p.left ≡ 1 + left + p.declared.header.nodes
    pub declared : Declared s p.declared
    pub counts : CountsLeft s p.declared.header left at p.declared.cells
    pub fresh : Fresh s index uses

  pub array_ready : Walking s at p index uses → p.due ≡ Body → p.declared.header.nodes + 1 < p.left → ArrayReady
  array_ready (at_header z b f) d more = absurd (never (cc (begun_due p b)))
  array_ready (at_labels z e l h f) d more = absurd (never (cc))
  array_ready (at_array e left l h c f) d more = record { left = left; more = omega arith; sum_left = l; declared = h; counts = c; fresh = f }
  array_ready (at_node e n l c h g) d more = absurd (omega arith)
  array_ready (at_end l w) d more = absurd (omega arith)

  -- a node or the end
  pub record AfterArrays : Type 0 where
    pub n : ℕ
    pub sum_left : p.left + n ≡ 1 + p.declared.header.nodes
    pub counted : Counted s p.declared
    pub nodes_left : NodesLeft s p.declared.header index uses at n
    pub long : Long s index uses

  pub after_arrays : Walking s at p index uses → p.due ≡ Body → p.left ≤ p.declared.header.nodes + 1 → AfterArrays
  after_arrays (at_header z b f) d few = absurd (never (cc (begun_due p b)))
  after_arrays (at_labels z e l h f) d few = absurd (never (cc))
  after_arrays (at_array e left l h c f) d few =
      let none : left ≡ 0 = omega arith in
      let here : at ≡ nodes_start p.declared.header = omega arith in
      record {
        n = 0;
        sum_left = omega arith;
        counted = record { declared = h; counts = c.before; is_counts = counts_done s p.declared.header left at p.declared.cells c none; total = c.summed };
        nodes_left = rw here (nodes_start_lem s p.declared.header index uses f.zeros);
        long = f.long;
      }
  after_arrays (at_node e n l c h g) d few = record { n = n; sum_left = l; counted = c; nodes_left = h; long = g }
  after_arrays (at_end l w) d few = absurd (omega arith)

  -- after the header its limits hold
  pub body_limits : Walking s at p index uses → p.due ≡ Body → HeaderFits s p.declared.header
  body_limits (at_header z b f) d = absurd (never (cc (begun_due p b)))
  body_limits (at_labels z e l h f) d = absurd (never (cc))
  body_limits (at_array e left l h c f) d = header_fits s p.declared.header h.is_header
  body_limits (at_node e n l c h g) d = header_fits s p.declared.header c.declared.is_header
  body_limits (at_end l w) d = absurd (omega arith)

  -- a node
  pub node_ready : BodyDue s at p index uses → p.left ≤ p.declared.header.nodes + 1 → 1 < p.left → NodeReady s at p (p.declared.header.nodes + 1 - p.left) index uses
  node_ready b few more =
      let k = after_arrays b.walking b.is_body few in
      let f = body_limits b.walking b.is_body in
      let same : p.declared.header.nodes + 1 - p.left ≡ k.n = omega arith in
      let is_header = k.counted.declared.is_header in
      record {
        some = b.some;
        more = omega arith;
        few = (f.nodes_fit, f.arrays_fit);
        left = rw same k.nodes_left;
        long_index = k.long.long_index.holds _ is_header;
        long_uses = k.long.long_uses.holds _ is_header;
      }

  -- ---- what is known after one record more
  -- what was read leads on, and a refusal refuses the table
  read_turn : {A : Type 0} (a : Answer A) (after : A → Progress) (r : Result Progress Refusal) → r ≡ read_on a after
      → ((x : Refusal) → a ≡ refused x → read_table s ≡ refused x) → ((v : A) → a ≡ got v → Turned s at p (after v) index uses) → TurnedAs s at p r index uses
  unfolding read_on as_result and_then
  read_turn (refused x) after r e stops goes = rw e (stops x refl)
  read_turn (got v) after r e stops goes = rw e (goes v refl)

  -- after the header
  pub header_turn : HeaderReady → (r : Result Progress Refusal) → r ≡ read_on (read_header s) header_due → TurnedAs s at p r index uses
  unfolding header_due
  header_turn k r e =
      read_turn (read_header s) header_due r e (header_stop s)
      (λ g read.
      let fit = header_fits s g read in
      record {
        walking = at_labels (omega arith) refl refl read k.fresh;
        fewer = omega arith;
        fits = omega arith;
      })

  -- after the labels
  pub labels_turn : LabelsReady → (r : Result Progress Refusal) → r ≡ read_on (read_labels s p.declared.header at) (labels_due p) → TurnedAs s at p r index uses
  unfolding labels_due
  labels_turn k r e =
      read_turn (read_labels s p.declared.header at) (labels_due p) r e
      (λ x stop. labels_stop s index p.declared x k.is_header (rw k.here at stop))
      (λ ls read.
      rw k.here (record {
        walking = at_array refl p.declared.header.arrays (omega arith) (record { is_header = k.is_header; is_labels = rw k.here at read }) (counts_start_lem s p.declared.header) k.fresh;
        fewer = omega arith;
        fits = omega (arith, mask_most p.declared.header.version);
      }))

  -- after an array
  pub array_small : (k : ArrayReady) → at < 65000
  array_small k = omega (arith, (header_fits s p.declared.header k.declared.is_header).arrays_fit, mask_most p.declared.header.version)

  pub array_turn : (k : ArrayReady) → (r : Result Progress Refusal) → r ≡ read_on (read_count s at p.declared.cells) (count_due p) → TurnedAs s at p r index uses
  unfolding count_due
  array_turn k r e =
      read_turn (read_count s at p.declared.cells) (count_due p) r e
      (λ x stop. arrays_stop s index p.declared x k.declared (counts_stop s p.declared.header k.left at p.declared.cells k.counts k.more x stop))
      (λ n read.
      record {
        walking = at_array refl (k.left - 1) (omega arith) (record { is_header = k.declared.is_header; is_labels = k.declared.is_labels })
            (counts_more s p.declared.header k.left at p.declared.cells k.counts k.more n read) k.fresh;
        fewer = omega arith;
        fits = omega (arith, array_small k);
      })

  -- at the end all records are whole
  pub end_heads : (k : AfterArrays) → p.left ≤ 1 → Heads s index p.declared.header.nodes
  end_heads k few =
      let all : k.n ≡ p.declared.header.nodes = omega (arith, k.sum_left, some, few) in
      subst (λ n. Heads s index n) all (heads_before s p.declared.header index uses at k.n k.nodes_left (omega (arith, all, k.long.long_index.holds _ k.counted.declared.is_header)))

  -- and the table is refused or ready
  pub ended : (k : AfterArrays) → p.left ≤ 1 → (answer : Result (Unit {0}) Refusal) → Finishes s index uses p.declared at answer → EndedAs s index p.declared answer
  ended k few answer f = nodes_finished s index p.declared uses at k.n answer k.counted k.nodes_left (omega arith) f

  pub end_turn : (k : AfterArrays) → Ready s index p.declared → Turned s at p (end_due p) index uses
  unfolding end_due
  end_turn k ready = record { walking = at_end refl ready; fewer = some; fits = omega (arith, at_small s at p index uses k.n k.counted k.nodes_left) }

-- after a node: index and uses were written, and are as long as they were
module _ (s : List ℕ) (at : ℕ) (p : Progress) (index uses index' uses' : List ℕ) (some : 0 < p.left) (k : AfterArrays s at p index uses some) where
  pub node_turn : (n : ℕ) → n ≡ k.n → length index' ≡ length index → length uses' ≡ length uses → (r : Result Progress Refusal) → NodeTurned s at p n index' uses' r → TurnedAs s at p r index' uses'
  unfolding node_due
  node_turn n e li lu r (node_refused x refuses q) = rw q (nodes_stopped s index' p.declared x k.counted refuses)
  node_turn n e li lu r (node_read size q h) =
      let c = k.counted in
      rw q (record {
        walking = at_node refl (n + 1) (omega arith) c h
            (record { long_index = rw li k.long.long_index; long_uses = rw lu k.long.long_uses });
        fewer = omega arith;
        fits = omega (arith, at_small s (at + size) p index' uses' (n + 1) c h);
      })

-- ---- the end
-- after the last record the table is ready
pub walked_ready : (s : List ℕ) (at : ℕ) (p : Progress) (index uses : List ℕ) → Walking s at p index uses → p.left < 1 → Ready s index p.declared
walked_ready s at p index uses (at_header z b f) none = absurd (omega (arith, begun_left p b))
walked_ready s at p index uses (at_labels z q l h f) none = absurd (omega arith)
walked_ready s at p index uses (at_array q left l h c f) none = absurd (omega arith)
walked_ready s at p index uses (at_node q n l c h g) none = absurd (omega arith)
walked_ready s at p index uses (at_end l w) none = w
