-- What gdb 13.1 sent and was answered, and packets of the manual, which the definitions have to give.
use Rattle.std.specs.Prelude.{◌≡◌, ◌++◌, refl, codes, Ok, Err, Some, None, [], ◌∷◌}
use Rattle.std.specs.Fmt.{digits}
use Rattle.hex.specs.Hex.{decode_pairs}
use Rattle.s360_packet.specs.Framing.{framed}
use Rattle.s360_packet.specs.Receiving.{between_packets, received_along}
use Rattle.s360_packet.specs.declared.receiver.Received.TheVariants.{Packet, TooLong, Damaged, Interrupt}
use Rattle.s360_packet.specs.Requests.{reading_of}
use Rattle.s360_packet.specs.declared.request.Breakpoint.TheVariants.{Software, Hardware}
use Rattle.s360_packet.specs.declared.request.Point.TheVariants.{Watch as watch}
use Rattle.s360_packet.specs.declared.request.Watchpoint.TheVariants.{Write, Read, Access}
use Rattle.s360_packet.specs.declared.request.Thread.TheVariants.{Every}
use Rattle.s360_packet.specs.declared.request.Request.TheVariants.{Storage, WriteStorage, WriteRegister, Insert, InsertIf, Remove, Description, MemoryMap, Select, Command, Restart, Run, Supported}
use Rattle.s360_packet.specs.declared.request.RequestFault.TheVariants.{Unknown, Malformed}
use Rattle.s360_packet.specs.Answers.{answer_text}
use Rattle.s360_packet.specs.declared.answer.Answer.TheVariants.{Error, MemoryMap as map, Supported as told, Stopped}
use Rattle.s360_packet.specs.declared.answer.Stop.TheVariants.{Watch}

-- packets, the empty one among them; a byte that is escaped, as the manual has it
pub ok_packet : framed (codes "OK") ≡ codes "$OK#9a"
ok_packet = refl

pub empty_packet : framed [] ≡ codes "$#00"
empty_packet = refl

pub escaped_packet : framed (0x7D ∷ []) ≡ codes "$}]#da"
escaped_packet = refl

-- `$g#67` between other bytes, of which one is Ctrl-C; Ctrl-C within a packet; a wrong sum; more data than was told
pub packet_between : received_along (between_packets 4) (0x03 ∷ codes "+$g#67") ≡ Some Interrupt ∷ None ∷ None ∷ None ∷ None ∷ None ∷ Some Packet ∷ []
packet_between = refl

pub interrupt_within : received_along (between_packets 4) (codes "$" ++ (0x03 ∷ codes "#03")) ≡ None ∷ None ∷ None ∷ None ∷ Some Packet ∷ []
interrupt_within = refl

pub wrong_sum : received_along (between_packets 4) (codes "$g#68") ≡ None ∷ None ∷ None ∷ None ∷ Some Damaged ∷ []
wrong_sum = refl

pub too_long : received_along (between_packets 1) (codes "$OK#9a") ≡ None ∷ None ∷ None ∷ None ∷ None ∷ Some TooLong ∷ []
too_long = refl

-- requests
pub storage_request : reading_of (codes "m604,4") ≡ Ok (Storage 0x604 4)
storage_request = refl

pub register_request : reading_of (codes "P0=00003800") ≡ Ok (WriteRegister 0 0x3800)
register_request = refl

pub watch_request : reading_of (codes "Z2,604,4") ≡ Ok (Insert (watch Write) 0x604 4)
watch_request = refl

pub access_request : reading_of (codes "Z4,604,4") ≡ Ok (Insert (watch Access) 0x604 4)
access_request = refl

pub out_request : reading_of (codes "z3,604,4") ≡ Ok (Remove (watch Read) 0x604 4)
out_request = refl

pub conditions_request : reading_of (codes "Z0,300,2;Xb,2600032a2022052a201327") ≡ Ok (InsertIf Software 0x300 2 (codes "Xb,2600032a2022052a201327"))
conditions_request = refl

pub commands_request : reading_of (codes "Z1,300,2;X1,27;cmds:0,X1,27") ≡ Ok (InsertIf Hardware 0x300 2 (codes "X1,27;cmds:0,X1,27"))
commands_request = refl

pub map_request : reading_of (codes "qXfer:memory-map:read::0,1000") ≡ Ok (MemoryMap 0 0x1000)
map_request = refl

pub restart_request : reading_of (codes "R0") ≡ Ok Restart
restart_request = refl

pub run_request : reading_of (codes "vRun;2f62696e2f78;6f6e65") ≡ Ok Run
run_request = refl

pub description_request : reading_of (codes "qXfer:features:read:target.xml:0,1000") ≡ Ok (Description 0 0x1000)
description_request = refl

pub thread_request : reading_of (codes "Hc-1") ≡ Ok (Select Every)
thread_request = refl

pub line_request : reading_of (codes "qRcmd,73746570") ≡ Ok (Command (codes "step"))
unfolding decode_pairs
line_request = refl

pub probe_request : reading_of (codes "X200,0:") ≡ Ok (WriteStorage 0x200 [])
probe_request = refl

pub supported_request : reading_of (codes "qSupported:multiprocess+;swbreak+") ≡ Ok Supported
supported_request = refl

-- requests that are not known, one that is not whole, a watch with conditions, and a map that is named
pub must_reply_empty : reading_of (codes "vMustReplyEmpty") ≡ Err Unknown
must_reply_empty = refl

pub trace_status : reading_of (codes "qTStatus") ≡ Err Unknown
trace_status = refl

pub no_count : reading_of (codes "m604") ≡ Err Malformed
no_count = refl

pub watch_with_conditions : reading_of (codes "Z2,604,4;X1,27") ≡ Err Malformed
watch_with_conditions = refl

pub named_map : reading_of (codes "qXfer:memory-map:read:map:0,1000") ≡ Err Malformed
named_map = refl

-- answers
pub watch_answer : answer_text (Stopped (Watch Write 0x604)) ≡ codes "T05watch:604;"
unfolding digits
watch_answer = refl

pub read_answer : answer_text (Stopped (Watch Read 0x604)) ≡ codes "T05rwatch:604;"
unfolding digits
read_answer = refl

pub error_answer : answer_text (Error 1) ≡ codes "E01"
error_answer = refl

pub map_answer : answer_text (map 0x40000 0 0x1000)
    ≡ codes "l<memory-map><memory type='ram' start='0x0' length='0x40000'/></memory-map>"
unfolding digits
map_answer = refl

pub supported_answer : answer_text (told 0x4000)
    ≡ codes "PacketSize=4000;qXfer:features:read+;ReverseStep+;ReverseContinue+;swbreak+;QStartNoAckMode+;qXfer:memory-map:read+;ConditionalBreakpoints+"
unfolding digits
supported_answer = refl
