-- Runs of calls and what stands after them. Assumes nothing.
pub mod Given
pub mod Events
pub mod Stands
pub mod Tables
pub mod Names
pub mod Demand
pub mod Codes
pub mod Laws
pub use Events.{make_fresh, call, card_in, card_out, boot, sharers, Event, given, code_in, number_in, Keeper, Ours, FreshCame, CallCame, CardInCame}
pub use Events.{CardOutCame, BootCame, SharersCame, Entries, GoesOn, Runs, FromFresh}
pub use Stands.{Fact, client, mask, level, range, card, io, irq, Made, client_made, mask_made, level_made, range_made, io_made, irq_made, GivenBack}
pub use Stands.{client_back, mask_back, level_back, range_back, io_back, irq_back, Recorded, level_recorded, range_recorded, Makes, GivesBack, Lasts}
pub use Stands.{StandsSince, Registers, registration, registrations}
pub use Tables.{Tells, TellsExactly, Between, SaidOnce}
pub use Names.{Name, the_client, the_mask, the_level, the_range, the_card, the_io, the_irq, the_issued, the_sockets, name_of, NamedBy}
pub use Names.{register_client_named, register_issued, deregister, request_mask, release_mask, adjust_level, adjust_range, request_io_named, release_io_named}
pub use Names.{request_irq_named, release_irq_named, Framed}
pub use Demand.{Exact, ExactSince, Frame, CardOutKeeps, NeverAgain, Once, Number, SharersCounted, OneGrant, PortsApart, LevelsApart, Demand3}
pub use Codes.{Asked, service, no_service, card_in_case, card_out_case, boot_list, sharers_of, fresh_table, codes_of, CanGive}
pub use Laws.{OneOutcome, AddsRecords, RefusalKeeps, Unformed, UnformedRefused, Stays, BootPlaces, RefusedExactly, ExactCodes, TheCodes, fifteen}
pub use Laws.{EntryLaws}
