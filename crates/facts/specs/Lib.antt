-- What document 01 says: facts, well-formed sets, codes, packets and rules. Assumes nothing.
pub mod Codes
pub mod Sets
pub mod Says
pub mod Choice
pub mod Table
pub mod Ports
pub mod Levels
pub mod WellFormed
pub mod Packets
pub mod Checks
pub mod Clients
pub mod Sockets
pub mod Resources
pub mod Irq
pub mod Io
pub mod Boot
pub mod Services
pub mod Laws
pub use declared.Code.{Code}
pub use declared.Code.TheVariants.{Success, BadAttribute, BadBase, BadIrq, BadSize, BadSocket, NoCard, UnsupportedService, GeneralFailure}
pub use declared.Code.TheVariants.{BadArgLength, BadArgs, InUse, NoMoreItems, OutOfResource, BadHandle}
pub use declared.Manner.{Manner}
pub use declared.Manner.TheVariants.{Exclusive, TimeMultiplexed, DynamicLevel, DynamicPulse}
pub use declared.Width.{Width}
pub use declared.Width.TheVariants.{Short, Wide}
pub use declared.Record.{Record}
pub use declared.RangeAsked.{RangeAsked}
pub use declared.Handle.{Handle}
pub use declared.IoAsked.{IoAsked}
pub use declared.IrqAsked.{IrqAsked}
pub use Codes.{number_of, name_of, packed, placed}
pub use Sets.{◌∈◌, without, put}
pub use Choice.{Before, Chosen, Lowest}
pub use Table.{most_sockets, most_clients, most_issued, all_levels, most_ranges, all_ports, most_lines, all_events, most_asked, Client, Level, Range, IoGrant, HeldPorts, Held}
pub use Table.{IrqGrant, Facts, fresh, Seat, seat_of, socket_at, most_seats}
pub use Ports.{MeetsHeld, Within, Meet, Has, Managed, AllManaged, Answers, AnswersManaged, WhollyUnreserved, Overlap}
pub use Levels.{Together, exclusive_type, time_multiplexed_type, dynamic_type, type_of, Holds}
pub use WellFormed.{Rising, Apart, Live, AttributesAllowed, EventsAllowed, ClientFits, IoFits, IrqFits, IoCompany, IrqCompany}
pub use Packets.{byte, word, long, with_word, with_long, bit, Bytes}
pub use Checks.{Check, ◌gives◌, FirstGiven, Passed, Checked, RefusedIf, code_in, DecidedThen, Decided, Outcome, Kept, Leaves, RuledThen, Ruled, Rule}
pub use Clients.{with_clients, next_handle, register_length, client_attributes, client_events, new_client, registered, register_checks, Register}
pub use Clients.{without_client, HoldsIo, HoldsIrq, Masks, MaskHeld, HoldsMask, deregister_length, deregister_checks, Deregister}
pub use Sockets.{socket_of, BadSocketIn, release_checks, request_checks, with_card, card_checks, CardOutcome, CardTo, masking, with_mask}
pub use Sockets.{request_mask_length, release_mask_length, events_asked, own_mask_checks, request_mask_checks, RequestSocketMask, release_mask_checks}
pub use Sockets.{ReleaseSocketMask}
pub use Resources.{remove, add, first, next, io_range, irq_level, action_of, resource_of, irq_adjust_length, io_adjust_length, level_attributes, level_given}
pub use Resources.{base_given, count_given, attributes_given, lines_given, most_shown, TooMany, showing_range, showing_level, NotBuilt, WrongLength}
pub use Resources.{adjust_checks, reserve_bit, reserves, AddBits, LevelHeld, RangeHolder, RangeHeld, RangeAnswered, with_level, add_level_checks}
pub use Resources.{level_added, remove_level_checks, level_removed, range_checks, put_checks, add_range_checks, with_ranges, inserted, range_added, JustThat}
pub use Resources.{take_checks, remove_range_checks, without_range, range_removed, Follows, held_bit, shared_bit, LowestHolder, RangeShown, unheld}
pub use Resources.{one_alone, all_share, RangeNext, show_range_checks, LevelHolder, LevelShown, of_type, LevelFollows, show_level_checks, AddLevel}
pub use Resources.{RemoveLevel, ShowLevel, AddRange, RemoveRange, ShowRange, ByAction, AdjustIrq, AdjustIo, ByResource, AdjustResourceInfo}
pub use Irq.{request_irq_length, attributes_of, assigned_irq, info1, info2, type_asked_lem, ForcePulse, IrqFirstShared, level_asked_lem, Mask, LevelBit, PulseBit}
pub use Irq.{ShareBit, IrqAttributesBad, IrqInfoBad, dynamic_of, manner_asked_lem, irq_asked, levels_named_lem, Named, Fits, NoLevelFits, FirstFitting, Joining, Joins, NoLevelJoined}
pub use Irq.{LevelTaken, with_irq, with_pulse, assigning, own_irq_checks, irq_ahead_checks, level_checks, irq_request_checks, irq_grant, GrantsIrq, RequestIrq}
pub use Irq.{IrqHeld, release_irq_length, irq_release_checks, ReleaseIrq, sharer, sharers_below, Count, sharers_checks, Sharers}
pub use Io.{request_io_length, base_asked_lem, count_asked_lem, io_attributes, second_count, lines_asked_lem, IoShared, IoFirstShared, io_asked, ports_at}
pub use Io.{IoAttributesBad, IoSizeBad, NotAllManaged, BothShare, InTheWay, SmallestPower, Candidate, NoCandidate, CandidateTaken, BaseTaken, with_io}
pub use Io.{own_io_checks, io_ahead_checks, base_checks, io_request_checks, io_grant, GrantsIo, RequestIo, IoHeld, release_io_length, io_release_checks}
pub use Io.{ReleaseIo}
pub use Boot.{record_size, record_of, records_in, record_checks, record_added, records_added, Booted, stopped, ended, refused, added, records_of, end_of}
pub use Boot.{BootBytes}
pub use Services.{Service, register_client, deregister_client, adjust_resource_info, request_irq, release_irq, request_io, release_io, request_socket_mask}
pub use Services.{release_socket_mask, service_number, rule_of, Serves, Call}
pub use Laws.{Coincide, RefusalKeeps, ServiceLaws, HostLaws, BytesLaws, ExactlyWhen}
