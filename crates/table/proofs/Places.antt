-- How tasks change their places, in the image and in the table.
use mathlib.Core.Path.{◌≡◌, refl, sym, ap, ap₂, ◌∙◌}
use mathlib.Core.Bool.{Bool, false, cond}
use mathlib.Core.List.{List, []}
use Prim.Native.Nat.{ℕ, ◌+◌, ◌-◌, ◌≤◌, ◌<◌}
use native.Mathlib.Omega.{arith}
use lib.Dec.{eqb, ltb}
use lib.ListN.{length, get_or, take, drop, length-take, length-drop}
use lib.Seq.{ext_get_or, get_or-take, get_or-drop, get_or-set_same, set-set}
use borrow.Author.Tests.{eq-eqb, ne_eqb}
use borrow.Rule.Slice.PartMut.{put_mid}
use Rattle.queue.specs.Slots.{place_of as place_in, place_from, limit, opened, closed, entered, without, moved, replaced}
use Rattle.queue.specs.Slide.{lifted, slid_within, packed_at, slid-within, moved-packed}
use Rattle.queue.specs.Lengths.{length-entered, length_without}
use Rattle.columns.specs.Columns.{offset, place, columns, entry}
use Rattle.columns.specs.Laws.{entry_read}
use Rattle.columns.specs.Words.{byte-read}
use Rattle.columns.specs.Rows.{tabulate_at, tabulate-long, tabulate-map, records}
use Rattle.rules.specs.declared.Task.{Task}
use Rattle.rules.specs.Sizes.{task_count, level_count}
use Rattle.rules.specs.Table.{Table, queue_count, able_queue, task_of, queue_of, works, first_in, with_task, with_queue, with_running, with_ready, with_work, with_left}
use Rattle.rules.specs.Family.{place_of}
use Rattle.rules.specs.Ready.{first_level, ready_with}
use Rattle.rules.specs.Move.{leave, join, is_raised, put_work, rotate, chosen}
use Rattle.laws.specs.queues.Put.{place_same, rotate_in}
use Rattle.table.specs.kinds.Task.{made, work_column}
use Rattle.table.specs.Image.{Image, slot_count, layout, view}
use Rattle.table.specs.Ready.{word_left, word_joined, reworked_in, leave_is, join_is, works-stored}
use Rattle.table.specs.Settled.{leave_none, join_none, put-works}
use Rattle.table.specs.Queues.{queue_at, view-queue, view-slots, queue-put}

-- ---- the working priorities are a column of bytes

pub view-works : (l : List ℕ) → Image l → works (view l) ≡ take task_count (drop (offset layout work_column) l)
unfolding view works records made
view-works l h =
    tabulate-map (λ (k : Task). k.work) task_count _
    ∙ ext_get_or 0 _ _ (tabulate-long task_count _ ∙ sym (simp (length-take, length-drop) (omega arith)))
    (λ i p. let q : i < task_count = omega (arith, tabulate-long task_count (λ i. entry (columns layout l) work_column i)) in
    tabulate_at task_count (λ i. entry (columns layout l) work_column i) i 0 q
    ∙ entry_read layout work_column i l q
    ∙ sym (byte-read (place layout work_column i) l)
    ∙ sym (get_or-take task_count (drop (offset layout work_column) l) i 0 q ∙ get_or-drop (offset layout work_column) l i 0 ∙ ap (λ (z : ℕ). get_or l z 0) (go i)))
  where
    go : (i : ℕ) → offset layout work_column + i ≡ place layout work_column i
    go i = omega arith

-- ---- leaving and joining: the word and the slots

module _ (q i : ℕ) (t u v : Table) (h : q < queue_count) where
  pub leaves : u ≡ with_ready (word_left q i t) t → v ≡ with_queue q (without i (queue_of u q)) u → v ≡ leave q i t
  leaves e d = d ∙ ap (λ (y : Table). with_queue q (without i (queue_of y q)) y) e ∙ sym (leave_is q i t h)

  pub joins : (ahead : Bool) → u ≡ with_queue q (entered ahead (works t) i (queue_of t q)) t → v ≡ with_ready (word_joined q i u) u → v ≡ join ahead q i t
  unfolding word_joined ready_with
  joins ahead e d = d ∙ ap (λ (y : Table). with_ready (word_joined q i y) y) e ∙ sym (join_is q i t ahead h)

-- ---- slots

-- To leave the slots of a queue and to join them again.
pub moved-again : (q i : ℕ) (t u v : Table) → q < queue_count → length t.queues ≡ queue_count → u ≡ with_queue q (without i (queue_of t q)) t
    → v ≡ with_queue q (entered false (works u) i (queue_of u q)) u → v ≡ with_queue q (moved (works t) i (queue_of t q)) t
unfolding works
moved-again q i t u v h n e d =
    let x : List ℕ = without i (queue_of t q) in
    d
    ∙ ap (λ (y : Table). with_queue q (entered false (works y) i (queue_of y q)) y) e
    ∙ ap (λ (old : List ℕ). with_queue q (entered false (works t) i old) (with_queue q x t)) (get_or-set_same t.queues q x [] (omega arith))
    ∙ rw set-set

-- A queue that is lent.
pub queue-lent : (l : List ℕ) (q : ℕ) → q < queue_count → Image l → take (queue_at q + slot_count - queue_at q) (drop (queue_at q) l) ≡ queue_of (view l) q
queue-lent l q p h = let e : queue_at q + slot_count - queue_at q ≡ slot_count = omega arith in rw e (sym (view-queue l h q p))

-- The slots that come back.
module _ (l : List ℕ) (q i : ℕ) (ys : List ℕ) (p : q < queue_count) (h : Image l) where
  abbrev a : ℕ
  a = queue_at q

  lent : take (a + slot_count - a) (drop a l) ≡ queue_of (view l) q
  lent = queue-lent l q p h

  pub left_queue : ys ≡ without i (take (a + slot_count - a) (drop a l)) → view (put_mid a (a + slot_count - a) l ys) ≡ with_queue q (without i (queue_of (view l) q)) (view l)
  left_queue e =
      let y : ys ≡ without i (queue_of (view l) q) = e ∙ ap (without i) lent in
      let n : length ys ≡ slot_count = ap length y ∙ length_without i (queue_of (view l) q) ∙ view-slots l h q p in
      queue-put l q a (a + slot_count) h p refl refl ys n ∙ ap (λ (z : List ℕ). with_queue q z (view l)) y

  pub closed-queue : (at : ℕ) → at ≡ place_in i (queue_of (view l) q) → ys ≡ closed at (take (a + slot_count - a) (drop a l)) → view (put_mid a (a + slot_count - a) l ys) ≡ with_queue q (without i (queue_of (view l) q)) (view l)
  closed-queue at e d = left_queue (d ∙ ap (λ (n : ℕ). closed n (take (a + slot_count - a) (drop a l))) (e ∙ ap (place_in i) (sym lent)))

  pub joined-queue : (ahead : Bool) (at : ℕ) → at ≡ place_from (works (view l)) (limit ahead (get_or (works (view l)) i 0)) (queue_of (view l) q)
      → ys ≡ opened at (i + 1) (take (a + slot_count - a) (drop a l)) → view (put_mid a (a + slot_count - a) l ys) ≡ with_queue q (entered ahead (works (view l)) i (queue_of (view l) q)) (view l)
  joined-queue ahead at e d =
      let y : ys ≡ entered ahead (works (view l)) i (queue_of (view l) q) = d ∙ ap₂ (λ (a : ℕ) (z : List ℕ). opened a (i + 1) z) e lent in
      let n : length ys ≡ slot_count = ap length y ∙ length-entered ahead (works (view l)) i (queue_of (view l) q) ∙ view-slots l h q p in
      queue-put l q a (a + slot_count) h p refl refl ys n ∙ ap (λ (z : List ℕ). with_queue q z (view l)) y

  -- A slide between two places, where no slot before the first is free, is what leaving and joining leave.
  pub rejoined_queue : (ahead : Bool) (at to : ℕ) → at ≡ packed_at (i + 1) (queue_of (view l) q) → at < slot_count
      → to ≡ place_from (works (view l)) (limit ahead (get_or (works (view l)) i 0)) (lifted at (queue_of (view l) q))
      → ys ≡ slid_within at to (i + 1) (take (a + slot_count - a) (drop a l)) → view (put_mid a (a + slot_count - a) l ys) ≡ with_queue q (replaced ahead (works (view l)) i (queue_of (view l) q)) (view l)
  rejoined_queue ahead at to e b is d =
      let x : List ℕ = queue_of (view l) q in
      let long : length x ≡ slot_count = view-slots l h q p in
      let m = moved-packed i at x e (omega arith) ahead (works (view l)) to is in
      let y : ys ≡ replaced ahead (works (view l)) i x = d ∙ ap (slid_within at to (i + 1)) lent ∙ slid-within at to (i + 1) x (omega arith) m.0 ∙ m.1 in
      let n : length ys ≡ slot_count = ap length y ∙ length-entered ahead (works (view l)) i (without i x) ∙ length_without i x ∙ long in
      queue-put l q a (a + slot_count) h p refl refl ys n ∙ ap (λ (z : List ℕ). with_queue q z (view l)) y

-- ---- a task that changes its place

-- Another working priority.
module _ (i p q : ℕ) (t : Table) where
  abbrev k : Task
  k = with_work p (task_of t i)

  -- The task leaves its level, goes before its equals or behind them, and joins the new level.
  module _ (ahead : Bool) (h : q < queue_count) (n : length t.queues ≡ queue_count) where
    abbrev placed : Table
    placed = with_task i k (with_ready (word_left q i t) t)

    abbrev slots : List ℕ
    slots = replaced ahead (works placed) i (queue_of t q)

    slid_there : with_ready (word_joined q i (with_queue q slots placed)) (with_queue q slots placed) ≡ reworked_in ahead q i p t
    unfolding reworked_in word_joined ready_with works
    slid_there =
        let x : List ℕ = without i (queue_of t q) in
        let u : Table = with_task i k (with_ready (word_left q i t) (with_queue q x t)) in
        sym
        (ap (λ (y : Table). join ahead q i (with_task i (with_work p (task_of y i)) y)) (leave_is q i t h)
        ∙ join_is q i u ahead h
        ∙ ap (λ (old : List ℕ). with_ready (word_joined q i u) (with_queue q (entered ahead (works u) i old) u)) (get_or-set_same t.queues q x [] (omega arith))
        ∙ rw set-set)

    pub rework_slid : (u v w x : Table) → u ≡ with_ready (word_left q i t) t → v ≡ with_task i (with_work p (task_of u i)) u → w ≡ with_queue q (replaced ahead (works v) i (queue_of v q)) v
        → x ≡ with_ready (word_joined q i w) w → x ≡ reworked_in ahead q i p t
    rework_slid u v w x e f g h =
        h
        ∙ ap (λ (y : Table). with_ready (word_joined q i y) y)
        (g
        ∙ ap (λ (y : Table). with_queue q (replaced ahead (works y) i (queue_of y q)) y)
        (f ∙ ap (λ (y : Table). with_task i (with_work p (task_of y i)) y) e))
        ∙ slid_there

  -- Its queue stays as it was until it slides.
  pub packed_still : (at : ℕ) (u v : Table) → u ≡ with_ready (word_left q i t) t → v ≡ with_task i (with_work p (task_of u i)) u → at ≡ packed_at (i + 1) (queue_of t q) → at ≡ packed_at (i + 1) (queue_of v q)
  packed_still at u v e f g = g ∙ sym (ap (λ (y : Table). packed_at (i + 1) (queue_of y q)) (f ∙ ap (λ (y : Table). with_task i (with_work p (task_of y i)) y) e))

  -- Or it leaves the queue and comes in again.
  pub rework_again : (ahead : Bool) (u v w : Table) → u ≡ leave q i t → v ≡ with_task i (with_work p (task_of u i)) u → w ≡ join ahead q i v → w ≡ reworked_in ahead q i p t
  unfolding reworked_in
  rework_again ahead u v w e f g = g ∙ ap (join ahead q i) (f ∙ ap (λ (y : Table). with_task i (with_work p (task_of y i)) y) e)

  module _ (l : i < task_count) (a : q ≡ place_of (task_of t i)) (d : (task_of t i).work ≡ p → ⊥) where
    -- It is raised where the number is smaller, as its place is the same.
    abbrev raised : Bool
    raised = ltb p (task_of t i).work

    same_place : place_of k ≡ place_of (task_of t i)
    same_place = place_same (task_of t i) k refl refl refl refl

    raised_is : is_raised (task_of t i) k ≡ raised
    unfolding is_raised
    raised_is = rw (same_place, eq-eqb (place_of (task_of t i)) (place_of (task_of t i)) refl)

    reworks : put_work t i p ≡ join raised q i (with_task i k (leave q i t))
    reworks =
        put-works i k t l d
        ∙ ap₂ (λ (b : Bool) (x : ℕ). join b x i (with_task i k (leave (place_of (task_of t i)) i t))) raised_is same_place
        ∙ ap (λ (x : ℕ). join raised x i (with_task i k (leave x i t))) (sym a)

    pub rework_there : q < queue_count → reworked_in raised q i p t ≡ put_work t i p
    unfolding reworked_in
    rework_there h =
        let out : Table = with_ready (word_left q i t) (with_queue q (without i (queue_of t q)) t) in
        let at : leave q i t ≡ out = leave_is q i t h in
        ap (λ (y : Table). join raised q i (with_task i (with_work p (task_of y i)) y)) at ∙ ap (λ (y : Table). join raised q i (with_task i k y)) (sym at) ∙ sym reworks

    pub rework_none : queue_count ≤ q → with_task i k t ≡ put_work t i p
    rework_none h = sym (reworks ∙ ap (λ (y : Table). join raised q i (with_task i k y)) (leave_none q i t h) ∙ join_none q i (with_task i k t) raised h)

-- A rotation moves the task within the able queue.
pub rotate_is : (i : ℕ) (t u : Table) → i < task_count → u ≡ with_task i (with_left (task_of t i).quantum (task_of t i)) t → with_queue 0 (moved (works u) i (queue_of u 0)) u ≡ rotate i t
rotate_is i t u l e =
    ap (λ (y : Table). with_queue 0 (moved (works y) i (queue_of y 0)) y) e
    ∙ ap (λ (keys : List ℕ). with_queue 0 (moved keys i (queue_of t 0)) (with_task i (with_left (task_of t i).quantum (task_of t i)) t)) (works-stored i _ t refl)
    ∙ sym (rotate_in i t l)

-- ---- who runs

pub chosen_is : (t : Table) → t.depth ≡ 0 → chosen t ≡ with_running (cond (eqb (first_level t.ready) level_count) 0 (first_in able_queue t)) t
unfolding chosen
chosen_is t h = rw (eq-eqb t.depth 0 h)

pub chosen_not : (t : Table) → (t.depth ≡ 0 → ⊥) → chosen t ≡ t
unfolding chosen
chosen_not t h = rw (ne_eqb t.depth 0 h)
