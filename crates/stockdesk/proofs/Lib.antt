mod Rolls
mod SessionParts
mod Connections
mod Meetings
mod WorkParts
mod NextSession
