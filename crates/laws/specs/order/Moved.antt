-- The moves leave two tasks in their order that stay where they are, and at the same working priority.
use Rattle.std.specs.Prelude.{◌≡◌, refl, ◌⊎◌, ◌≢◌, Bool, true, false, cond, List, [], ℕ, ◌≤◌, ◌<◌, eqb, get_or, set}
use Rattle.std.proofs.Common.{sym, ap, ◌∙◌, inl, inr, ⊎_elim, arith, get_or-set_same, get_or-set_other}
use Rattle.std.proofs.Math.Decide.{ℕ_discrete}
use Rattle.queue.specs.Slots.{without, moved, replaced}
use Rattle.queue.specs.Order.{those, other}
use Rattle.queue.specs.Stable.{entered-others, without-others}
use Rattle.rules.specs.Afresh.{lt_or_le}
use Rattle.rules.specs.Sizes.{task_count}
use Rattle.rules.specs.Table.{Table, task_of, queue_of, queue_count, able_queue, works, written, with_work, with_left}
use Rattle.rules.specs.Family.{place_of}
use Rattle.rules.specs.Move.{stays, is_raised, put, rotate, put_work, walk, fresh_in}
use Rattle.rules.specs.declared.Task.{Task}
use Rattle.rules.specs.Sound.{SoundQueues}
use Rattle.laws.specs.queues.Put.{whichever, put_in, put_out, put-stays, rotate_in, put_each, task-put, task-put_same, part-rotate, place_same, walk_inv}
use Rattle.laws.specs.queues.Queues.{slot-free, queue_right, put-queue, put-queued}
use Rattle.laws.specs.order.Order.{Before}
use Rattle.laws.specs.order.Ahead.{before-those, other_passes}
use Rattle.laws.specs.chains.Graph.{work-fresh}

-- ---- one move leaves the others in their order

-- The slots with tasks other than i.
abbrev others : ℕ → List ℕ → List ℕ
others i l = those (other (written i)) l

module _ {t : Table} (s : SoundQueues t) (i : ℕ) (l : i < task_count) (q : ℕ) (m : q < queue_count) where
  moved-leaves : (in_front : Bool) (keys : List ℕ) → others i (replaced in_front keys i (queue_of t q)) ≡ others i (queue_of t q)
  moved-leaves in_front keys =
      entered-others in_front keys i (without i (queue_of t q)) (slot-free (works t) (λ j. eqb (place_of (task_of t j)) q) i l (λ x z d. refl) (λ j d. refl) (queue_right s q m))
      ∙ without-others i (queue_of t q)

  put-others : (k : Task) → others i (queue_of (put i k t) q) ≡ others i (queue_of t q)
  put-others k = go (stays (task_of t i) k) refl
    where
      go : (b : Bool) → stays (task_of t i) k ≡ b → others i (queue_of (put i k t) q) ≡ others i (queue_of t q)
      go true e = rw (put_in i k t l, e)
      go false e = rw (put-queue i k q l m s e) (whichever (λ x. others i x ≡ others i (queue_of t q)) (eqb (place_of k) q) (moved-leaves (is_raised (task_of t i) k) (works (put i k t))) (without-others i (queue_of t q)))

  rotate-others : others i (queue_of (rotate i t) q) ≡ others i (queue_of t q)
  rotate-others = rw (rotate_in i t l) (go (ℕ_discrete q able_queue))
    where
      l' : List ℕ
      l' = moved (works t) i (queue_of t able_queue)

      go : Dec (q ≡ able_queue) → others i (get_or (set t.queues able_queue l') q []) ≡ others i (queue_of t q)
      go (yes e) = rw (e, get_or-set_same t.queues able_queue l' [] (omega (arith, s.shaped.queues))) (rw e at (moved-leaves false (works t)))
      go (no d) = rw (get_or-set_other t.queues able_queue q l' [] d)

-- ---- changes that do not come back

-- Place and working priority are the same.
pub record Same (k m : Task) : Type 0 where
  pub place : place_of m ≡ place_of k
  pub work : m.work ≡ k.work

-- How far a wait has come to its end: in a queue of waiters, nowhere, or in the able queue.
unfoldable pub nearness : ℕ → ℕ
nearness p = cond (eqb p able_queue) 2 (cond (eqb p queue_count) 1 0)

-- A task that leaves its place comes nearer.
pub record Onward (k m : Task) : Type 0 where
  pub onward : nearness (place_of k) ≤ nearness (place_of m)
  pub further : nearness (place_of m) ≤ nearness (place_of k) → place_of m ≡ place_of k

-- Changes of working priorities, `W a x y` of task a from x to y, that can be made one after another; once the number is another it
-- does not come back.
pub record Oneway (W : ℕ → ℕ → ℕ → Type 0) : Type 0 where
  pub rests : (a : ℕ) {x y : ℕ} → y ≡ x → W a x y
  pub joins : (a : ℕ) {x y z : ℕ} → W a x y → W a y z → W a x z
  pub squeezes : (a : ℕ) {x y z : ℕ} → W a x y → W a y z → z ≡ x → y ≡ x

-- Task a changes so.
pub record Goes (W : ℕ → ℕ → ℕ → Type 0) (a : ℕ) (k m : Task) : Type 0 where
  pub work : W a k.work m.work
  pub place : Onward k m

pub same_onward : {k m : Task} → place_of m ≡ place_of k → Onward k m
same_onward e = let r = ap nearness e in record { onward = omega arith; further = λ h. e }

module _ {W : ℕ → ℕ → ℕ → Type 0} (g : Oneway W) (a : ℕ) where
  pub same_goes : {k m : Task} → Same k m → Goes W a k m
  same_goes s = record { work = g.rests a s.work; place = same_onward s.place }

  goes_on : {k l m : Task} → Goes W a k l → Goes W a l m → Goes W a k m
  goes_on x y =
      let p = x.place in
      let q = y.place in
      record {
        work = g.joins a x.work y.work;
        place = record { onward = omega arith; further = λ h. q.further (omega arith) ∙ p.further (omega arith) };
      }

  -- Who is back did not go.
  goes_back : {k l m : Task} → Goes W a k l → Goes W a l m → Same k m → Same k l × Same l m
  goes_back x y s =
      let p = x.place in
      let q = y.place in
      let e = ap nearness s.place in
      let w = g.squeezes a x.work y.work s.work in
      (record { place = p.further (omega arith); work = w }, record { place = q.further (omega arith); work = s.work ∙ sym w })

-- From t to u the tasks a and b changed so, and where both stayed they kept their order in each queue.
pub record Moved (W : ℕ → ℕ → ℕ → Type 0) (a b : ℕ) (t u : Table) : Type 0 where
  pub first : Goes W a (task_of t a) (task_of u a)
  pub second : Goes W b (task_of t b) (task_of u b)
  pub kept : Same (task_of t a) (task_of u a) → Same (task_of t b) (task_of u b) → (q : ℕ) → q < queue_count → Before a b (queue_of t q) → Before a b (queue_of u q)

-- Two tasks.
pub record Two (a b : ℕ) : Type 0 where
  pub first : a < task_count
  pub second : b < task_count
  pub apart : a ≢ b

module _ {a b : ℕ} (two : Two a b) where
  -- Where neither a nor b is task i.
  others_kept : (t u : Table) (i : ℕ) → a ≢ i → b ≢ i → ((q : ℕ) → q < queue_count → others i (queue_of u q) ≡ others i (queue_of t q))
      → (q : ℕ) → q < queue_count → Before a b (queue_of t q) → Before a b (queue_of u q)
  others_kept t u i d e h q m = before-those (other (written i)) a b two.apart (other_passes i a d) (other_passes i b e) (h q m)

  -- Two tasks that stay keep their order where some task changes.
  pub put_kept : {t : Table} (i : ℕ) (k : Task) → SoundQueues t → Same (task_of t a) (task_of (put i k t) a) → Same (task_of t b) (task_of (put i k t) b)
      → (q : ℕ) → q < queue_count → Before a b (queue_of t q) → Before a b (queue_of (put i k t) q)
  put_kept {t} i k s x y q m h = ⊎_elim (λ l. go l (ℕ_discrete a i) (ℕ_discrete b i)) (λ l. rw (put_out i k t l) h) (lt_or_le i task_count)
    where
      rest : i < task_count → Same (task_of t i) (task_of (put i k t) i) → Before a b (queue_of (put i k t) q)
      rest l z =
          let e = task-put_same i k t l s.shaped.tasks in
          rw (put-stays i k t l (sym z.place ∙ ap place_of e) (sym z.work ∙ ap (λ k. k.work) e)) h

      go : i < task_count → Dec (a ≡ i) → Dec (b ≡ i) → Before a b (queue_of (put i k t) q)
      go l (yes e) f = rest l (rw e at x)
      go l (no e) (yes f) = rest l (rw f at y)
      go l (no e) (no f) = others_kept t (put i k t) i e f (λ p n. put-others s i l p n k) q m h

  module _ {W : ℕ → ℕ → ℕ → Type 0} (g : Oneway W) where
    -- One change after another.
    pub moved_on : {t u v : Table} → Moved W a b t u → Moved W a b u v → Moved W a b t v
    moved_on x y =
        record {
          first = goes_on g a x.first y.first;
          second = goes_on g b x.second y.second;
          kept = λ p r q m h.
              let i = goes_back g a x.first y.first p in
              let j = goes_back g b x.second y.second r in
              y.kept i.1 j.1 q m (x.kept i.0 j.0 q m h);
        }

    -- Some task changes in the way that `W` says.
    pub put-moved : {t : Table} (i : ℕ) (k : Task) → SoundQueues t → Goes W i (task_of t i) k → Moved W a b t (put i k t)
    put-moved {t} i k s x = record { first = goes a; second = goes b; kept = put_kept i k s }
      where
        goes : (j : ℕ) → Goes W j (task_of t j) (task_of (put i k t) j)
        goes j = put_each (λ j m. Goes W j (task_of t j) m) i k t j x (same_goes g j (record { place = refl; work = refl }))

    -- Where tasks and queues are as they were.
    pub same_moved : (t u : Table) → u.tasks ≡ t.tasks → u.queues ≡ t.queues → Moved W a b t u
    same_moved t u x y = record { first = same_goes g a (same a); second = same_goes g b (same b); kept = λ p r q m h. rw y h }
      where
        same : (j : ℕ) → Same (task_of t j) (task_of u j)
        same j = rw x (record { place = refl; work = refl })

    module _ {t : Table} (i : ℕ) (d : a ≢ i) (e : b ≢ i) (s : SoundQueues t) where
      -- Another task changes.
      pub apart-moved : (k : Task) → Moved W a b t (put i k t)
      apart-moved k = record { first = same_goes g a (same a d); second = same_goes g b (same b e); kept = put_kept i k s }
        where
          same : (j : ℕ) → j ≢ i → Same (task_of t j) (task_of (put i k t) j)
          same j n = rw (task-put i k t j n) (record { place = refl; work = refl })

      -- Another task goes behind its equals.
      pub rotate-moved : i < task_count → Moved W a b t (rotate i t)
      rotate-moved l = record { first = same_goes g a (same a); second = same_goes g b (same b); kept = λ p r. others_kept t (rotate i t) i d e (λ q m. rotate-others s i l q m) }
        where
          same : (j : ℕ) → Same (task_of t j) (task_of (rotate i t) j)
          same j =
              record {
                place = part-rotate place_of (λ n k. place_same k (with_left n k) refl refl refl refl) i t j;
                work = part-rotate (λ k. k.work) (λ n k. refl) i t j;
              }

-- ---- the walk

-- In a walk from the table t task a works as before or at the number worked out afresh in t.
abbrev pub Walks : Table → ℕ → ℕ → ℕ → Type 0
Walks t a x y = (y ≡ x) ⊎ (y ≡ fresh_in t a)

pub walks_oneway : (t : Table) → Oneway (Walks t)
walks_oneway t = record { rests = λ a e. inl e; joins = λ a x y. join x y; squeezes = λ a x y z. squeeze x y z }
  where
    join : {k l m f : ℕ} → (l ≡ k) ⊎ (l ≡ f) → (m ≡ l) ⊎ (m ≡ f) → (m ≡ k) ⊎ (m ≡ f)
    join x (inr y) = inr y
    join (inl x) (inl y) = inl (y ∙ x)
    join (inr x) (inl y) = inr (y ∙ x)

    squeeze : {k l m f : ℕ} → (l ≡ k) ⊎ (l ≡ f) → (m ≡ l) ⊎ (m ≡ f) → m ≡ k → l ≡ k
    squeeze (inl x) y z = x
    squeeze (inr x) (inl y) z = sym y ∙ z
    squeeze (inr x) (inr y) z = x ∙ sym y ∙ z

-- A walk is made of such changes.
pub walk-moved : {a b : ℕ} → Two a b → {t : Table} (s : ℕ) → SoundQueues t → Moved (Walks t) a b t (walk s t)
walk-moved {a} {b} two {t} s h = (walk_inv Walked turn s (h, refl, same_moved two (walks_oneway t) t t refl refl)).2
  where
    Walked : Table → Type 0
    Walked u = SoundQueues u × (fresh_in u ≡ fresh_in t) × Moved (Walks t) a b t u

    turn : (u : Table) (i : ℕ) → i < task_count → Walked u → Walked (put_work u i (fresh_in u i))
    turn u i l (r, f, x) =
        let k = with_work (fresh_in u i) (task_of u i) in (
          put-queued i k r,
          work-fresh u i (fresh_in u i) l ∙ f,
          moved_on two (walks_oneway t) x
              (put-moved two (walks_oneway t) i k r (record { work = inr (ap (λ (n : ℕ → ℕ). n i) f); place = same_onward (place_same (task_of u i) k refl refl refl refl) })),
        )
