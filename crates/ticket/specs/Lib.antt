-- the lines of a ticket, and the first wrong one
pub mod Ticket
