use mathlib.Core.Path.{refl}
use native.Mathlib.Omega.{arith}
use Rattle.rules.specs.Kinds.{spelled}
use Rattle.rules.specs.Step.{answer_to, effect, change_by, told_by}
use Rattle.service.specs.Serving.{served}
use Rattle.service.specs.Told.{tells-nothing}
use Rattle.calls.proofs.Ends.{by_call, plain-call}
use Rattle.calls.proofs.serve_task.Goals as goal

pub returns-in-TaskCreate : goal.returns-in-TaskCreate
unfolding answer_to effect change_by told_by spelled
returns-in-TaskCreate c = plain-call _ c.in-TaskCreate.is c.alone.ensures refl c.create_task.ensures

pub returns-in-TaskDelete : goal.returns-in-TaskDelete
unfolding answer_to effect change_by told_by spelled
returns-in-TaskDelete c = plain-call _ c.in-TaskDelete.is c.alone-in-TaskDelete.ensures refl c.delete_task.ensures

pub returns-in-ChangePriority : goal.returns-in-ChangePriority
unfolding answer_to effect change_by told_by spelled
returns-in-ChangePriority c = plain-call _ c.in-ChangePriority.is c.alone-in-ChangePriority.ensures refl c.change_priority.ensures

pub returns-in-Suspend : goal.returns-in-Suspend
unfolding answer_to effect change_by told_by spelled
returns-in-Suspend c = plain-call _ c.in-Suspend.is c.alone-in-Suspend.ensures refl c.suspend_task.ensures

pub returns-in-Resume : goal.returns-in-Resume
unfolding answer_to effect change_by told_by spelled
returns-in-Resume c = plain-call _ c.in-Resume.is c.alone-in-Resume.ensures refl c.resume_task.ensures

pub returns-in-Yield : goal.returns-in-Yield
unfolding answer_to effect change_by told_by spelled
returns-in-Yield c = plain-call _ c.in-Yield.is c.alone-in-Yield.ensures refl c.yield_turn.ensures

pub returns-in-Delay : goal.returns-in-Delay
unfolding answer_to effect change_by told_by spelled
returns-in-Delay c = plain-call _ c.in-Delay.is c.alone-in-Delay.ensures refl c.delay_by.ensures

pub returns-in-DelayResume : goal.returns-in-DelayResume
unfolding answer_to effect change_by told_by spelled
returns-in-DelayResume c = plain-call _ c.in-DelayResume.is c.alone-in-DelayResume.ensures refl c.delay_resume.ensures

pub returns-in-Lock : goal.returns-in-Lock
unfolding answer_to effect change_by told_by spelled
returns-in-Lock c = plain-call _ c.in-Lock.is c.alone-in-Lock.ensures refl c.lock_on.ensures

pub returns-in-Unlock : goal.returns-in-Unlock
unfolding answer_to effect change_by told_by spelled
returns-in-Unlock c = plain-call _ c.in-Unlock.is c.alone-in-Unlock.ensures refl c.unlock_once.ensures

pub returns-in-Tick : goal.returns-in-Tick
unfolding answer_to effect change_by told_by spelled
returns-in-Tick c = by_call _ c.in-Tick.is (tells-nothing (omega arith) refl (served refl refl c.tick_once.ensures))

pub returns-in-SetDefaultQuantum : goal.returns-in-SetDefaultQuantum
unfolding answer_to effect change_by told_by spelled
returns-in-SetDefaultQuantum c = plain-call _ c.in-SetDefaultQuantum.is c.alone-in-SetDefaultQuantum.ensures refl c.set_default.ensures

pub returns-in-SemaphoreCreate : goal.returns-in-SemaphoreCreate
unfolding answer_to effect change_by told_by spelled
returns-in-SemaphoreCreate c = plain-call _ c.in-SemaphoreCreate.is c.alone-in-SemaphoreCreate.ensures refl c.create.ensures

pub returns-in-SemaphoreDelete : goal.returns-in-SemaphoreDelete
unfolding answer_to effect change_by told_by spelled
returns-in-SemaphoreDelete c = plain-call _ c.in-SemaphoreDelete.is c.alone-in-SemaphoreDelete.ensures refl c.delete.ensures

pub returns-in-SemaphoreWait : goal.returns-in-SemaphoreWait
unfolding answer_to effect change_by told_by spelled
returns-in-SemaphoreWait c = plain-call _ c.in-SemaphoreWait.is c.alone-in-SemaphoreWait.ensures refl c.wait.ensures

pub returns-in-SemaphorePost : goal.returns-in-SemaphorePost
unfolding answer_to effect change_by told_by spelled
returns-in-SemaphorePost c = plain-call _ c.in-SemaphorePost.is c.alone-in-SemaphorePost.ensures refl c.post.ensures

pub returns-in-SemaphoreAbort : goal.returns-in-SemaphoreAbort
unfolding answer_to effect change_by told_by spelled
returns-in-SemaphoreAbort c = plain-call _ c.in-SemaphoreAbort.is c.alone-in-SemaphoreAbort.ensures refl c.abort.ensures

pub returns-in-MutexCreate : goal.returns-in-MutexCreate
unfolding answer_to effect change_by told_by spelled
returns-in-MutexCreate c = plain-call _ c.in-MutexCreate.is c.alone-in-MutexCreate.ensures refl c.create-in-MutexCreate.ensures

pub returns-in-MutexDelete : goal.returns-in-MutexDelete
unfolding answer_to effect change_by told_by spelled
returns-in-MutexDelete c = plain-call _ c.in-MutexDelete.is c.alone-in-MutexDelete.ensures refl c.delete-in-MutexDelete.ensures

pub returns-in-MutexWait : goal.returns-in-MutexWait
unfolding answer_to effect change_by told_by spelled
returns-in-MutexWait c = plain-call _ c.in-MutexWait.is c.alone-in-MutexWait.ensures refl c.wait-in-MutexWait.ensures

pub returns-in-MutexPost : goal.returns-in-MutexPost
unfolding answer_to effect change_by told_by spelled
returns-in-MutexPost c = plain-call _ c.in-MutexPost.is c.alone-in-MutexPost.ensures refl c.post-in-MutexPost.ensures

pub returns-in-MutexAbort : goal.returns-in-MutexAbort
unfolding answer_to effect change_by told_by spelled
returns-in-MutexAbort c = plain-call _ c.in-MutexAbort.is c.alone-in-MutexAbort.ensures refl c.abort-in-MutexAbort.ensures

pub returns-in-GroupCreate : goal.returns-in-GroupCreate
unfolding answer_to effect change_by told_by spelled
returns-in-GroupCreate c = plain-call _ c.in-GroupCreate.is c.alone-in-GroupCreate.ensures refl c.create-in-GroupCreate.ensures

pub returns-in-GroupDelete : goal.returns-in-GroupDelete
unfolding answer_to effect change_by told_by spelled
returns-in-GroupDelete c = plain-call _ c.in-GroupDelete.is c.alone-in-GroupDelete.ensures refl c.delete-in-GroupDelete.ensures

pub returns-in-GroupWait : goal.returns-in-GroupWait
unfolding answer_to effect change_by told_by spelled
returns-in-GroupWait c = plain-call _ c.in-GroupWait.is c.alone-in-GroupWait.ensures refl c.wait-in-GroupWait.ensures

pub returns-in-GroupPost : goal.returns-in-GroupPost
unfolding answer_to effect change_by told_by spelled
returns-in-GroupPost c = plain-call _ c.in-GroupPost.is c.alone-in-GroupPost.ensures refl c.post-in-GroupPost.ensures

pub returns-in-GroupAbort : goal.returns-in-GroupAbort
unfolding answer_to effect change_by told_by spelled
returns-in-GroupAbort c = plain-call _ c.in-GroupAbort.is c.alone-in-GroupAbort.ensures refl c.abort-in-GroupAbort.ensures

pub returns-in-ChannelCreate : goal.returns-in-ChannelCreate
unfolding answer_to effect change_by told_by spelled
returns-in-ChannelCreate c = plain-call _ c.in-ChannelCreate.is c.alone-in-ChannelCreate.ensures refl c.create-in-ChannelCreate.ensures

pub returns-in-ChannelDelete : goal.returns-in-ChannelDelete
unfolding answer_to effect change_by told_by spelled
returns-in-ChannelDelete c = plain-call _ c.in-ChannelDelete.is c.alone-in-ChannelDelete.ensures refl c.delete-in-ChannelDelete.ensures

pub returns-in-ChannelWait : goal.returns-in-ChannelWait
unfolding answer_to effect change_by told_by spelled
returns-in-ChannelWait c = plain-call _ c.in-ChannelWait.is c.alone-in-ChannelWait.ensures refl c.wait-in-ChannelWait.ensures

pub returns-in-ChannelPost : goal.returns-in-ChannelPost
unfolding answer_to effect change_by told_by spelled
returns-in-ChannelPost c = plain-call _ c.in-ChannelPost.is c.alone-in-ChannelPost.ensures refl c.post-in-ChannelPost.ensures

pub returns-in-ChannelAbort : goal.returns-in-ChannelAbort
unfolding answer_to effect change_by told_by spelled
returns-in-ChannelAbort c = plain-call _ c.in-ChannelAbort.is c.alone-in-ChannelAbort.ensures refl c.abort-in-ChannelAbort.ensures

pub returns-in-ChannelFlush : goal.returns-in-ChannelFlush
unfolding answer_to effect change_by told_by spelled
returns-in-ChannelFlush c = by_call _ c.in-ChannelFlush.is (rw c.told.ensures c.flush.ensures)
