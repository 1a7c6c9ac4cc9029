-- What the standing rules say of objects and of who waits for them (`SoundObjects`), after one task or one object changes.
use Rattle.std.specs.Prelude.{◌≡◌, refl, ◌≢◌, List, [], ℕ, ◌-◌, ◌≤◌, ◌<◌, ltb}
use Rattle.std.proofs.Common.{sym, ap, subst, ◌∙◌, true≢false, eqb-true, eq-eqb, ne_eqb, ltb-true, lt-ltb, arith}
use Rattle.std.proofs.Math.Nat.{pos_of_ne-zero}
use Rattle.rules.specs.Sizes.{task_count, mutex_count, channel_count, most_nested, waits_semaphore, waits_mutex, waits_flags, waits_message}
use Rattle.rules.specs.Table.{Table, task_of, semaphore_of, mutex_of, group_of, channel_of, row_of, written, no_semaphore, no_mutex, no_group, no_channel, with_hold, with_semaphore, with_mutex, with_group, with_channel, with_row, with_tick, with_default_quantum, with_depth, with_running, holder_of}
use Rattle.rules.specs.declared.Task.{Task}
use Rattle.rules.specs.declared.Semaphore.{Semaphore}
use Rattle.rules.specs.declared.Mutex.{Mutex}
use Rattle.rules.specs.declared.Group.{Group}
use Rattle.rules.specs.declared.Channel.{Channel}
use Rattle.rules.specs.Sound.{Shaped, SoundSemaphore, SoundMutex, SoundGroup, SoundChannel, MayWait, SoundWait, SoundObjects}
use Rattle.rules.specs.Family.{Family, semaphores, mutexes, groups, channels, families, Among}
use Rattle.laws.specs.queues.Rows.{among-semaphores, among-mutexes, among-groups, among-channels, of_families, one_family}
use Rattle.laws.specs.chains.Graph.{written-holder}
use Rattle.laws.specs.queues.Fields.{rest}
use Rattle.laws.specs.queues.Put.{set_each, set_both}
use Rattle.laws.specs.keeps.Becomes.{Becomes, becomes_each}

-- A semaphore or a channel that is waited for is in use, and nothing is there to take: its count, or how many messages it holds, is 0.
pub record Awaited (used there : ℕ) : Type 0 where
  pub in_use : used ≡ 1
  pub none : there ≡ 0

-- A mutex for which task i waits is in use, and another task holds it.
pub record HeldApart (i : ℕ) (x : Mutex) : Type 0 where
  pub used : x.used ≡ 1
  pub held : x.holder ≢ 0
  pub apart : x.holder ≢ written i

-- ---- what a wait's rule says of the object's record

module _ (t : Table) (i o : ℕ) where
  -- A family of which something is there where this number is above 0, and that has no holder.
  module _ (f : Family) (there : ℕ) (offers : f.offers t o ≡ ltb 0 there) where
    pub may-awaited : MayWait f t i o → Awaited (f.used t o) there
    may-awaited w =
        let some : 0 < there → ⊥ = λ l. w.nothing (offers ∙ lt-ltb 0 there l) in
        record { in_use = w.used; none = omega arith }

    pub awaited-may : f.holder t o ≡ task_count → i < task_count → Awaited (f.used t o) there → MayWait f t i o
    awaited-may h l a = record { used = a.in_use; nothing = λ e. omega (arith, ltb-true 0 there (sym offers ∙ e), a.none); apart = λ e. omega (arith, h, e) }

  pub may-apart : i < task_count → MayWait mutexes t i o → HeldApart i (mutex_of t o)
  may-apart l w = record { used = w.used; held = λ z. w.nothing (eq-eqb _ 0 z); apart = λ e. w.apart (written-holder t o i e) }

  pub apart-may : HeldApart i (mutex_of t o) → MayWait mutexes t i o
  unfolding holder_of
  apart-may a = record { used = a.used; nothing = λ e. a.held (eqb-true _ _ e); apart = λ e. a.apart (own (rw (ne_eqb _ 0 a.held) at e)) }
    where
      own : (mutex_of t o).holder - 1 ≡ i → (mutex_of t o).holder ≡ written i
      own e = omega (arith, pos_of_ne-zero a.held)

  -- A group that is waited for is in use, whatever its flags are.
  pub used-may : i < task_count → (group_of t o).used ≡ 1 → MayWait groups t i o
  used-may l u = record { used = u; nothing = λ e. true≢false (sym e); apart = λ e. omega arith }

-- A task may be in the state of a family for which it may wait.
pub one_wait : {f : Family} → Among f families → {t : Table} {i o : ℕ} → MayWait f t i o → SoundWait t i f.state o
one_wait a {t} {i} {o} w g b e = subst (λ (h : Family). MayWait h t i o) (one_family a b e) w

-- Where an object is as it was, so is who may wait for it.
may_like : {f : Family} {t u : Table} {i o : ℕ} → f.used u o ≡ f.used t o → f.offers u o ≡ f.offers t o → f.holder u o ≡ f.holder t o → MayWait f t i o → MayWait f u i o
may_like used offers holder w = record { used = used ∙ w.used; nothing = λ e. w.nothing (sym offers ∙ e); apart = λ e. w.apart (sym holder ∙ e) }

-- A table but for its tasks, its queues and its single numbers.
abbrev pub things : Table → Table
things t = rest (with_tick 0 (with_default_quantum 0 (with_depth 0 (with_running 0 t))))

-- Where all objects are as they were.
pub waits_like : {t u : Table} (i state object : ℕ) → things u ≡ things t → SoundWait t i state object → SoundWait u i state object
unfolding holder_of
waits_like i state o same r =
    of_families _
    (λ e. may_like (ap (λ x. semaphores.used x o) same) (ap (λ x. semaphores.offers x o) same) refl (r semaphores among-semaphores e))
    (λ e. may_like (ap (λ x. mutexes.used x o) same) (ap (λ x. mutexes.offers x o) same) (ap (λ x. holder_of x o) same) (r mutexes among-mutexes e))
    (λ e. may_like (ap (λ x. groups.used x o) same) refl refl (r groups among-groups e))
    (λ e. may_like (ap (λ x. channels.used x o) same) (ap (λ x. channels.offers x o) same) refl (r channels among-channels e))

-- ---- one task changes

pub become_objects : {i : ℕ} {k : Task} {t u : Table} → Becomes i k t u → rest u ≡ rest t → SoundObjects t
    → SoundWait t i k.state k.object
    → ((m : ℕ) → m < mutex_count → (mutex_of t m).holder ≡ written i → k.used ≡ 1)
    → SoundObjects u
become_objects {i} {k} {t} {u} b rests old may uses =
    record {
      semaphores = λ s l. subst (λ (x : Table). SoundSemaphore (semaphore_of x s)) same (old.semaphores s l);
      mutexes = λ m l. subst (λ (x : Table). SoundMutex (mutex_of x m)) same (old.mutexes m l);
      groups = λ g l. subst (λ (x : Table). SoundGroup (group_of x g)) same (old.groups g l);
      channels = λ c l. subst (λ (x : Table). SoundChannel (channel_of x c) (row_of x c)) same (old.channels c l);
      waits = λ j l.
          waits_like j (task_of u j).state (task_of u j).object (ap things rests)
          (becomes_each (λ n x. SoundWait t n x.state x.object) b j may (old.waits j l));
      holders = λ m l.
          let h = (mutex_of t m).holder in
          subst
          (λ (x : Table). (mutex_of x m).holder ≢ 0 → (task_of u ((mutex_of x m).holder - 1)).used ≡ 1)
          same
          (λ d. becomes_each (λ n x. n ≡ h - 1 → x.used ≡ 1) b (h - 1) (λ e. uses m l (omega arith)) (λ e. old.holders m l d) refl);
    }
  where
    same : rest t ≡ rest u
    same = sym rests

-- Who holds a mutex is in use.
pub holder-used : {t : Table} → SoundObjects t → (i m : ℕ) → m < mutex_count → (mutex_of t m).holder ≡ written i → (task_of t i).used ≡ 1
holder-used {t} old i m l e = subst (λ (j : ℕ). (task_of t j).used ≡ 1) (omega arith) (old.holders m l (omega arith))

-- ---- one object changes: those of other kinds are as they were

pub semaphore_objects : {t : Table} (s : ℕ) (x : Semaphore) → SoundObjects t → SoundSemaphore x
    → ((j : ℕ) → j < task_count → (task_of t j).state ≡ waits_semaphore → (task_of t j).object ≡ s → Awaited x.used x.count)
    → SoundObjects (with_semaphore s x t)
unfolding holder_of
semaphore_objects {t} s x old right waited =
    record {
      semaphores = λ n l. set_each (λ n. SoundSemaphore) t.semaphores s n x no_semaphore right (old.semaphores n l);
      mutexes = old.mutexes;
      groups = old.groups;
      channels = old.channels;
      waits = λ j l.
          let o = (task_of t j).object in
          of_families _
          (λ e.
          awaited-may u j o semaphores (semaphore_of u o).count refl refl l
          (set_each (λ n (y : Semaphore). n ≡ o → Awaited y.used y.count) t.semaphores s o x no_semaphore (λ q. waited j l e (sym q))
          (λ q. may-awaited t j o semaphores (semaphore_of t o).count refl (old.waits j l semaphores among-semaphores e)) refl))
          (λ e. may_like refl refl refl (old.waits j l mutexes among-mutexes e))
          (λ e. may_like refl refl refl (old.waits j l groups among-groups e))
          (λ e. may_like refl refl refl (old.waits j l channels among-channels e));
      holders = old.holders;
    }
  where
    u : Table
    u = with_semaphore s x t

pub mutex-objects : {t : Table} (m : ℕ) (x : Mutex) → SoundObjects t → SoundMutex x
    → ((j : ℕ) → j < task_count → (task_of t j).state ≡ waits_mutex → (task_of t j).object ≡ m → HeldApart j x)
    → (x.holder ≢ 0 → (task_of t (x.holder - 1)).used ≡ 1)
    → SoundObjects (with_mutex m x t)
mutex-objects {t} m x old right waited uses =
    record {
      semaphores = old.semaphores;
      mutexes = λ n l. set_each (λ n. SoundMutex) t.mutexes m n x no_mutex right (old.mutexes n l);
      groups = old.groups;
      channels = old.channels;
      waits = λ j l.
          let o = (task_of t j).object in
          of_families _
          (λ e. may_like refl refl refl (old.waits j l semaphores among-semaphores e))
          (λ e.
          apart-may (with_mutex m x t) j o
          (set_each (λ n y. n ≡ o → HeldApart j y) t.mutexes m o x no_mutex (λ q. waited j l e (sym q)) (λ q. may-apart t j o l (old.waits j l mutexes among-mutexes e)) refl))
          (λ e. may_like refl refl refl (old.waits j l groups among-groups e))
          (λ e. may_like refl refl refl (old.waits j l channels among-channels e));
      holders = λ n l. set_each (λ n y. y.holder ≢ 0 → (task_of t (y.holder - 1)).used ≡ 1) t.mutexes m n x no_mutex uses (old.holders n l);
    }

pub group_objects : {t : Table} (g : ℕ) (x : Group) → SoundObjects t → SoundGroup x
    → ((j : ℕ) → j < task_count → (task_of t j).state ≡ waits_flags → (task_of t j).object ≡ g → x.used ≡ 1)
    → SoundObjects (with_group g x t)
unfolding holder_of
group_objects {t} g x old right waited =
    record {
      semaphores = old.semaphores;
      mutexes = old.mutexes;
      groups = λ n l. set_each (λ n. SoundGroup) t.groups g n x no_group right (old.groups n l);
      channels = old.channels;
      waits = λ j l.
          let o = (task_of t j).object in
          of_families _
          (λ e. may_like refl refl refl (old.waits j l semaphores among-semaphores e))
          (λ e. may_like refl refl refl (old.waits j l mutexes among-mutexes e))
          (λ e.
          used-may (with_group g x t) j o l
          (set_each (λ n (y : Group). n ≡ o → y.used ≡ 1) t.groups g o x no_group (λ q. waited j l e (sym q)) (λ q. (old.waits j l groups among-groups e).used) refl))
          (λ e. may_like refl refl refl (old.waits j l channels among-channels e));
      holders = old.holders;
    }

-- A channel, with its row.
pub channel-objects : {t : Table} → Shaped t → (c : ℕ) (x : Channel) (row : List ℕ) → c < channel_count → SoundObjects t → SoundChannel x row
    → ((j : ℕ) → j < task_count → (task_of t j).state ≡ waits_message → (task_of t j).object ≡ c → Awaited x.used x.held)
    → SoundObjects (with_row c row (with_channel c x t))
unfolding holder_of
channel-objects {t} s c x row k old right waited =
    record {
      semaphores = old.semaphores;
      mutexes = old.mutexes;
      groups = old.groups;
      channels = λ n l. set_both (λ n. SoundChannel) t.channels t.messages c n x row no_channel [] (omega (arith, s.channels)) (omega (arith, s.messages)) right (old.channels n l);
      waits = λ j l.
          let o = (task_of t j).object in
          of_families _
          (λ e. may_like refl refl refl (old.waits j l semaphores among-semaphores e))
          (λ e. may_like refl refl refl (old.waits j l mutexes among-mutexes e))
          (λ e. may_like refl refl refl (old.waits j l groups among-groups e))
          (λ e.
          awaited-may u j o channels (channel_of u o).held refl refl l
          (set_each (λ n (y : Channel). n ≡ o → Awaited y.used y.held) t.channels c o x no_channel (λ q. waited j l e (sym q))
          (λ q. may-awaited t j o channels (channel_of t o).held refl (old.waits j l channels among-channels e)) refl));
      holders = old.holders;
    }
  where
    u : Table
    u = with_row c row (with_channel c x t)

-- A mutex in use without a holder, and one with.
pub unheld_right : (x : Mutex) → x.used ≡ 1 → SoundMutex (with_hold 0 0 x)
unheld_right x u = record { used = omega arith; holder = omega arith; nesting = omega arith; free = λ z. absurd (omega arith); unheld = λ e. refl; held = λ d. absurd (d refl) }

pub held_right : (x : Mutex) → x.used ≡ 1 → (h n : ℕ) → h ≢ 0 → h ≤ task_count → 1 ≤ n → n ≤ most_nested → SoundMutex (with_hold h n x)
held_right x u h n d l g k = record { used = omega arith; holder = l; nesting = k; free = λ z. absurd (omega arith); unheld = λ e. absurd (d e); held = λ e. g }
