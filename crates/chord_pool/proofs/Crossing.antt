-- What a thread gets with a player may go there.
use Rattle.std.proofs.Common.{List, [], ◌∷◌, ℕ}
use denote.RattleType.{RattleType}
use base.Fml.{Lft}
use mir.Syntax.{Lifetime}
use denote.Hole.{as_row}
use denote.Ref.{ShrRef}
use denote.Struct.Field.{row_field}
use denote.Struct.Tuple.{TupleAt, type_at}
use denote.Param.Send.{IsSend, IsSync, sendable, shr_send}
use denote.Param.SendFields.{declared_send, as_row_send}
use Rattle.std.proofs.Crossing.{crosses, send, Vec-send}
use Rattle.std.specs.contracts.vec.Vec as Vec
use Rattle.std.specs.contracts.impls.GlobalAllocator.TheImpl.{ghosts}
use Rattle.std.specs.contracts.alloc.Global as Heap
use Rattle.atomic_table.proofs.send_lease.SendLease.TheSendSync as lease
use Rattle.atomic_table.proofs.shared.Seat.TheSendSync.{the_send}
use Rattle.atomic_table.proofs.shared.Shared.TheSendSync as table
use Rattle.chord_base.specs.contracts.text.Text as Text
use Rattle.chord_code.specs.contracts.code.Code as Code
use Rattle.chord_code.specs.contracts.instruction.Instruction as Instruction
use Rattle.chord_code.specs.contracts.parts.Block as Block
use Rattle.chord_code.specs.contracts.parts.ChordLine as ChordLine
use Rattle.chord_code.specs.contracts.parts.ClassLine as ClassLine
use Rattle.chord_code.specs.contracts.parts.MethodLine as MethodLine
use Rattle.chord_base.specs.contracts.event.Limits as Limits
use Rattle.chord_space.specs.contracts.space.Space as Space
use Rattle.chord_task.specs.contracts.parcel.Parcel as Parcel
use Rattle.chord_task.specs.contracts.parcel.ParcelCarry.TheImpl as carry
use Rattle.chord_task.proofs.Crossing.{entry_sent, task_sent, parcel_sent}
use Rattle.chord_pool.specs.contracts.player.Player as Player

-- a player may
pub player_sent : IsSend Player.the_row
player_sent = search (lease.the_send, lease.the_sync, table.the_send, table.the_sync, the_send, parcel_sent, task_sent, entry_sent, sendable, crosses) depth 60 fits 20000

-- threads may share a text
text_shared : IsSync Text.the_row
text_shared = search (sendable, crosses) depth 20

-- an instruction
instruction_shared : IsSync Instruction.the_row
instruction_shared = search (text_shared, sendable, crosses) depth 60 fits 20000

-- a block of a code
block_shared : IsSync Block.the_row
block_shared = search (instruction_shared, sendable, crosses) depth 60 fits 20000

-- a line of a method
method_line_shared : IsSync MethodLine.the_row
method_line_shared = search (text_shared, sendable, crosses) depth 60 fits 20000

-- a line of a chord
chord_line_shared : IsSync ChordLine.the_row
chord_line_shared = search (sendable, crosses) depth 60 fits 20000

-- a line of a class
class_line_shared : IsSync ClassLine.the_row
class_line_shared = search (text_shared, method_line_shared, chord_line_shared, sendable, crosses) depth 60 fits 20000

-- a code
code_shared : IsSync Code.the_row
code_shared = search (class_line_shared, block_shared, sendable, crosses) depth 60 fits 20000

-- the limits of a run
limits_shared : IsSync Limits.the_row
limits_shared = search (sendable, crosses) depth 60 fits 20000

-- the table of a run
space_shared : IsSync (Space.the_row Parcel.the_row carry.ghosts)
space_shared = search (parcel_sent, lease.the_sync, table.the_sync, sendable, crosses) depth 60 fits 20000

-- what is moved there as a part of more
moved : (R : RattleType) → IsSend R → IsSend (as_row (row_field R))
moved R s = as_row_send (row_field R) s

-- what is lent there as a part of more
lent : (ℓ : Lifetime) (κ : Lft) (R : RattleType) → IsSync R → IsSend (as_row (row_field (ShrRef ℓ κ R)))
lent ℓ κ R s = as_row_send (row_field (ShrRef ℓ κ R)) (shr_send ℓ κ R s)

-- what goes to a thread with one or more of them
goes_with : (R : RattleType) → IsSend R → (gate runtime : RattleType) (name : List ℕ) (a b c d e : Lifetime) (i j k l m : Lft) → IsSync gate → IsSync runtime → IsSend (TupleAt name (ShrRef c k (Space.the_row Parcel.the_row carry.ghosts) ∷ ShrRef d l Code.the_row ∷ ShrRef e m Limits.the_row ∷ ShrRef a i runtime ∷ Heap.the_row ∷ R ∷ ShrRef b j gate ∷ []))
goes_with R sent gate runtime name a b c d e i j k l m told runs =
    declared_send (type_at name (ShrRef c k (Space.the_row Parcel.the_row carry.ghosts) ∷ ShrRef d l Code.the_row ∷ ShrRef e m Limits.the_row ∷ ShrRef a i runtime ∷ Heap.the_row ∷ R ∷ ShrRef b j gate ∷ []))
    (lent c k (Space.the_row Parcel.the_row carry.ghosts) space_shared, (lent d l Code.the_row code_shared, (lent e m Limits.the_row limits_shared, (lent a i runtime runs, (moved Heap.the_row send, (moved R sent, (lent b j gate told, tt)))))))

-- with one player
pub one_goes : (gate runtime : RattleType) (name : List ℕ) (a b c d e : Lifetime) (i j k l m : Lft) → IsSync gate → IsSync runtime → IsSend (TupleAt name (ShrRef c k (Space.the_row Parcel.the_row carry.ghosts) ∷ ShrRef d l Code.the_row ∷ ShrRef e m Limits.the_row ∷ ShrRef a i runtime ∷ Heap.the_row ∷ Player.the_row ∷ ShrRef b j gate ∷ []))
one_goes = goes_with Player.the_row player_sent

-- with all but the first
pub others_go : (gate runtime : RattleType) (name : List ℕ) (a b c d e : Lifetime) (i j k l m : Lft) → IsSync gate → IsSync runtime → IsSend (TupleAt name (ShrRef c k (Space.the_row Parcel.the_row carry.ghosts) ∷ ShrRef d l Code.the_row ∷ ShrRef e m Limits.the_row ∷ ShrRef a i runtime ∷ Heap.the_row ∷ Vec.the_row Player.the_row Heap.the_row ghosts ∷ ShrRef b j gate ∷ []))
others_go = goes_with (Vec.the_row Player.the_row Heap.the_row ghosts) (Vec-send Player.the_row player_sent)
