-- Where waits only end, no task becomes more urgent and none goes back to a queue that it left: so two tasks keep their order through any
-- number of waits that end, and through a tick.
use Rattle.std.specs.Prelude.{◌≡◌, ◌⊎◌, ◌≢◌, Bool}
use Rattle.std.proofs.Math.Path.{refl}
use Rattle.std.proofs.Common.{sym, ap, ◌∙◌, inl, inr, arith, ne_eqb}
use Prim.Native.Nat.{ℕ, zero, suc, ◌+◌, ◌-◌, ◌%◌, ◌≤◌, ◌<◌}
use Rattle.std.specs.Int.Bits.{bit_or}
use Rattle.rules.specs.Sizes.{task_count, group_count, ticks_round, waits_semaphore, given, object_deleted}
use Rattle.rules.specs.Chain.{Leads, Ends, fresh}
use Rattle.rules.specs.Afresh.{more, fresh_is}
use Rattle.rules.specs.Decides.{equals, both}
use Rattle.rules.specs.Table.{Table, task_of, queue_count, able_queue, group_queue, slot_in, first_in, is_able, asked_by, with_left, with_tick, holder_of}
use Rattle.rules.specs.Family.{place_of}
use Rattle.rules.specs.Move.{put, rotate, walk, next, base_of, away, ready, ended, ended_all}
use Rattle.rules.specs.Time.{caller_of}
use Rattle.rules.specs.Group.{is_met, consumed, woken}
use Rattle.rules.specs.Tick.{turned, due_ended, due_below, ticked}
use Rattle.rules.specs.Sound.{Sound, SoundQueues, SoundWithin}
use Rattle.rules.specs.declared.Task.{Task}
use Rattle.rules.specs.declared.Call.TheVariants.{Tick}
use Rattle.laws.specs.queues.Put.{sized, pick, whichever₃, able_left, task-put_same, part-put, place_same}
use Rattle.laws.specs.chains.Change.{carry, out_not}
use Rattle.laws.specs.queues.Queues.{put-queued, walk-queued}
use Rattle.laws.specs.queues.Stands.{no_waiter, not_able}
use Rattle.laws.specs.queues.Fields.{put_rest, walk-place, ended_rest}
use Rattle.laws.specs.chains.Graph.{waits_for, next_is, holders_same, ends-sized, worked_computed}
use Rattle.laws.specs.keeps.Becomes.{Becomes, becomes_each, ended-becomes, shorter}
use Rattle.laws.specs.numbers.Found.{peer}
use Rattle.laws.specs.order.Order.{Peer, Rotated, used_up}
use Rattle.laws.specs.keeps.Running.{caller-able}
use Rattle.laws.specs.keeps.Moves.{Midway, BeforeChoice, Waiter, ended_keeps}
use Rattle.laws.specs.keeps.Ending.{slot-waiter, first_waiter, due, due_outcome, due-outcome, marked-waiter, dues_keep, counted_keeps, turned_keeps}
use Rattle.laws.specs.order.Moved.{Two, nearness, Onward, Oneway, Goes, same_goes, Moved, Walks, walks_oneway, moved_on, put-moved, same_moved, rotate-moved, walk-moved}

-- ---- fewer waits

-- Where each task waits as before or for none, and has the same base, the numbers worked out afresh only rise.
fewer : {n : ℕ} {next next' base base' : ℕ → ℕ} → Ends n next → Ends n next'
    → ((j : ℕ) → (next' j ≡ next j) ⊎ (n ≤ next' j))
    → ((j : ℕ) → base' j ≡ base j)
    → (j : ℕ) → j < n → fresh n next base j ≤ fresh n next' base' j
fewer {n} {next} {next'} {base} {base'} ends ends' waits bases j l =
    let (m, k, c, e) = (fresh_is base' ends' l).among in
    omega (arith, (fresh_is base ends l).least m k (carry (λ i. back i (waits i)) m c), bases m)
  where
    back : (i : ℕ) → (next' i ≡ next i) ⊎ (n ≤ next' i) → Leads next (next' i) j → Leads next i j
    back i (inl e) c = more (rw e at c)
    back i (inr out) c = absurd (out_not ends l out c)

-- One wait ended: no task is more urgent.
ended_urgency : {n : ℕ} {t : Table} {i : ℕ} → Midway n t → Waiter t i → (outcome : ℕ) → outcome ≤ object_deleted → (j : ℕ) → j < task_count
    → (task_of t j).work ≤ (task_of (ended outcome i t) j).work
unfolding waits_for
ended_urgency {n} {t} {i} h w outcome o j l =
    let v = (ended_keeps h w outcome o).settled in
    omega (arith, worked_computed t (sized s) s.worked j l, worked_computed u (sized v) v.worked j l, fewer (ends-sized t (sized s)) (ends-sized u (sized v)) waits bases j l)
  where
    s : SoundWithin t
    s = h.settled

    u : Table
    u = ended outcome i t

    b : Becomes i (ready outcome (task_of t i)) t u
    b = ended-becomes w.task s.queued outcome

    waits : (j : ℕ) → (next u j ≡ next t j) ⊎ (task_count ≤ next u j)
    waits j =
        rw (next_is u j, holders_same t u (ap (λ (x : Table). x.mutexes) (ended_rest outcome i t)))
        (becomes_each (λ m x. (waits_for (holder_of t) x ≡ next t m) ⊎ (task_count ≤ waits_for (holder_of t) x)) b j (inr (omega arith)) (inl (sym (next_is t j))))

    bases : (j : ℕ) → base_of u j ≡ base_of t j
    bases j = becomes_each (λ m x. x.base ≡ base_of t m) b j refl refl

-- ---- places

-- What is not the able queue.
near_less : (p : ℕ) → p ≢ able_queue → (nearness p ≤ 1) × (1 ≤ nearness p → p ≡ queue_count)
unfolding nearness
near_less p d = rw (ne_eqb p able_queue d) (pick (λ n. (n ≤ 1) × (1 ≤ n → p ≡ queue_count)) equals (λ e. (omega arith, λ h. e)) (λ e. (omega arith, λ h. absurd (omega arith))))

-- A task that is not able goes nowhere or becomes able.
freed-onward : {k m : Task} → place_of k ≢ able_queue → (place_of m ≡ able_queue) ⊎ (place_of m ≡ queue_count) → Onward k m
unfolding nearness
freed-onward {k} {m} d (inl e) =
    let (x, y) = near_less (place_of k) d in
    let z : nearness (place_of m) ≡ 2 = ap nearness e in
    record { onward = omega arith; further = λ h. absurd (omega arith) }
freed-onward {k} {m} d (inr e) =
    let (x, y) = near_less (place_of k) d in
    let z : nearness (place_of m) ≡ 1 = ap nearness e in
    record { onward = omega arith; further = λ h. e ∙ sym (y (omega arith)) }

-- A task that is not able waits no more.
pub freed-goes : {W : ℕ → ℕ → ℕ → Type 0} → Oneway W → (i : ℕ) {k m : Task} → place_of k ≢ able_queue → m.state < waits_semaphore → m.work ≡ k.work → Goes W i k m
freed-goes g i {k} {m} d l work =
    record { work = g.rests i work; place = freed-onward d (no_waiter m (omega arith)) }

-- ---- waits that end

-- No task becomes more urgent.
abbrev pub Rises : ℕ → ℕ → ℕ → Type 0
Rises a x y = x ≤ y

pub rises_oneway : Oneway Rises
rises_oneway = record { rests = λ a e. omega arith; joins = λ a x y. omega arith; squeezes = λ a x y z. omega arith }

module _ {a b : ℕ} (two : Two a b) where
  rises : {W : ℕ → ℕ → ℕ → Type 0} {t u : Table} → Moved W a b t u → ((j : ℕ) → j < task_count → (task_of t j).work ≤ (task_of u j).work) → Moved Rises a b t u
  rises x h =
      record { first = record { work = h a two.first; place = x.first.place }; second = record { work = h b two.second; place = x.second.place }; kept = x.kept }

  -- One task becomes k, which stands and works as it did.
  pub still_moved : {t : Table} (i : ℕ) (k : Task) → SoundQueues t
      → k.used ≡ (task_of t i).used → k.state ≡ (task_of t i).state → k.suspend ≡ (task_of t i).suspend → k.object ≡ (task_of t i).object → k.work ≡ (task_of t i).work
      → Moved Rises a b t (put i k t)
  still_moved {t} i k q used state suspend object work =
      put-moved two rises_oneway i k q (same_goes rises_oneway i (record { place = place_same (task_of t i) k used state suspend object; work = work }))

  -- One wait or delay ends.
  pub ended-rises : {n : ℕ} {t : Table} {i : ℕ} → Midway n t → Waiter t i → (outcome : ℕ) → outcome ≤ object_deleted → Moved Rises a b t (ended outcome i t)
  unfolding ended
  ended-rises {n} {t} {i} h w outcome o =
      rises
      (moved_on two g
      (put-moved two g i k q (freed-goes g i (not_able (task_of t i) w.state) (omega arith) refl))
      (moved_on two g (walk-moved two (next t i) (put-queued i k q)) (put-moved two g i _ (walk-queued (next t i) (put-queued i k q)) (freed-goes g i still (omega arith) refl))))
      (ended_urgency h w outcome o)
    where
      q : SoundQueues t
      q = h.settled.queued

      k : Task
      k = away (task_of t i)

      g : Oneway (Walks (put i k t))
      g = walks_oneway (put i k t)

      still : place_of (task_of (walk (next t i) (put i k t)) i) ≢ able_queue
      still e = not_able k (λ e. omega arith) (sym (walk-place (next t i) (put i k t) i ∙ ap place_of (task-put_same i k t w.task q.shaped.tasks)) ∙ e)

  -- Those of the waiters of a queue.
  pub all_rise : (n outcome q : ℕ) → outcome ≤ object_deleted → q < queue_count → q ≢ able_queue → (t : Table) → BeforeChoice t → Moved Rises a b t (ended_all n outcome q t)
  unfolding ended_all
  all_rise zero outcome q o m d t h = same_moved two rises_oneway t t refl refl
  all_rise (suc n) outcome q o m d t h =
      pick (Moved Rises a b t) equals
      (λ e. same_moved two rises_oneway t t refl refl)
      (λ z. let w = first_waiter h.settled q m d z in moved_on two rises_oneway (ended-rises h w outcome o) (all_rise n outcome q o m d (ended outcome (first_in q t - 1) t) (ended_keeps h w outcome o)))

  -- Those of a group whose test is met.
  pub woken-rise : (n g flags k together : ℕ) → g < group_count → (t : Table) → BeforeChoice t → Moved Rises a b t (woken n g flags k together t)
  unfolding woken
  woken-rise zero g flags k together l t h = same_moved two rises_oneway t _ refl refl
  woken-rise (suc n) g flags k together l t h =
      pick (Moved Rises a b t) equals (λ e. same_moved two rises_oneway t _ refl refl)
      (λ some.
      let i = slot_in (group_queue g) k t - 1 in
      let asked = asked_by (task_of t i) in
      let w = slot-waiter h.settled (group_queue g) (omega arith) (λ e. omega arith) k some in
      whichever₃ (λ k together u. Moved Rises a b t (woken n g flags k together u)) (is_met flags asked)
      (moved_on two rises_oneway (ended-rises h w given (omega arith)) (woken-rise n g flags k (bit_or together (consumed flags asked)) l (ended given i t) (ended_keeps h w given (omega arith))))
      (woken-rise n g flags (k + 1) together l t h))

  -- Those of the first n tasks that are due.
  due-rises : (i : ℕ) → i < task_count → (t : Table) → Midway i t → Moved Rises a b t (due_ended i t)
  unfolding due_ended
  due-rises i l t h = pick (Moved Rises a b t) (due i t) (λ e. ended-rises h (marked-waiter h.settled i l e.0) (due_outcome i t) (due-outcome i t)) (λ e. same_moved two rises_oneway t t refl refl)

  dues_rise : (n : ℕ) → n ≤ task_count → {t : Table} → Midway 0 t → Moved Rises a b t (due_below n t)
  unfolding due_below
  dues_rise zero l {t} h = same_moved two rises_oneway t t refl refl
  dues_rise (suc n) l {t} h = moved_on two rises_oneway (dues_rise n (omega arith) h) (due-rises n (omega arith) (due_below n t) (dues_keep n (omega arith) h))

-- ---- a tick

module _ (interrupt : Bool) {a b : ℕ} (two : Two a b) where
  turned-rises : {t : Table} → SoundQueues t → caller_of t < task_count → (Rotated Tick interrupt t a → ⊥) → (Rotated Tick interrupt t b → ⊥) → Moved Rises a b t (turned t)
  unfolding turned
  turned-rises {t} f l x y =
      pick (Moved Rises a b t) equals
      (λ e. same_moved two rises_oneway t t refl refl)
      (λ runs. pick (Moved Rises a b t) (both equals (both equals (peer i u))) (λ e. behind (rotated runs e.0 e.1.0 e.1.1)) (λ e. less))
    where
      i : ℕ
      i = caller_of t

      k : Task
      k = with_left ((task_of t i).left - 1) (task_of t i)

      u : Table
      u = shorter t

      still : (j : ℕ) → is_able (task_of u j) ≡ is_able (task_of t j)
      still = part-put is_able i k t (able_left _ (task_of t i))

      less : Moved Rises a b t u
      less = still_moved two i k f refl refl refl refl refl

      earlier : Peer i u → Peer i t
      earlier p =
          let same = part-put (λ k. k.work) i k t refl in
          record { number = p.number; range = p.range; other = p.other; able = sym (still p.number) ∙ p.able; work = sym (same p.number) ∙ p.work ∙ same i }

      rotated : (t.running ≢ 0) → (task_of u i).left ≡ 0 → u.depth ≡ 0 → Peer i u → Rotated Tick interrupt t i
      rotated r z d p =
          record {
            runs = omega arith;
            ends = used_up (omega (arith, ap (λ k. k.left) (task-put_same i k t l f.shaped.tasks)));
            unlocked = sym (ap (λ (x : Table). x.depth) (put_rest i k t)) ∙ d;
            peer = earlier p;
          }

      behind : Rotated Tick interrupt t i → Moved Rises a b t (rotate i u)
      behind r = moved_on two rises_oneway less (rotate-moved two rises_oneway i (λ e. x (rw e r)) (λ e. y (rw e r)) (put-queued i k f) l)

  -- The turn, and then the waits that are due.
  pub ticked-rises : {t : Table} → Sound t → (Rotated Tick interrupt t a → ⊥) → (Rotated Tick interrupt t b → ⊥) → Moved Rises a b t (ticked t)
  unfolding ticked
  ticked-rises {t} s x y =
      let g = rises_oneway in
      let h = counted_keeps s in
      let l : caller_of t < task_count = omega (arith, s.runs.range) in
      moved_on two g (same_moved two g t (with_tick n t) refl refl)
      (moved_on two g (turned-rises h.settled.queued l (λ r. x (earlier r)) (λ r. y (earlier r))) (dues_rise two task_count (omega arith) (turned_keeps h l (caller-able s.settled.queued s.runs))))
    where
      n : ℕ
      n = (t.tick + 1) % ticks_round

      -- The counter does not bear on the turn.
      earlier : {j : ℕ} → Rotated Tick interrupt (with_tick n t) j → Rotated Tick interrupt t j
      earlier r =
          let p = r.peer in
          record { runs = r.runs; ends = r.ends; unlocked = r.unlocked; peer = record { number = p.number; range = p.range; other = p.other; able = p.able; work = p.work } }
